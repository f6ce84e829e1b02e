pub mod PlanningBody
pub mod Admitting
