pub mod Lent
pub mod Arranged
pub mod Judged
