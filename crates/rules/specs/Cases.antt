-- Worked values, those marked as proved: a case is a profile, a policy, a question and its reply.
use Rattle.std.specs.Prelude.{ℕ, zero, suc, ◌≡◌, Bool, true, false, List, [], ◌∷◌, ◌++◌, ◌↔◌, ℤ, pos, length, get_or}
use Rattle.rules.specs.Numbers.{longest_coast, policy_2008, policy_2005, duration_bytes, refused_loop}
use Rattle.rules.specs.Words.{cat, tab, rows}
use Rattle.rules.specs.Image.{Profile, bytes, image}
use Rattle.rules.specs.Order.{Order, TheOrder}
use Rattle.rules.specs.Limits.{tables, limit_by, planned, planner_tables, Gives, Late}
use Rattle.rules.specs.Refusals.{◌blames◌below◌, First, Refuses, LoopFault, image_checks}
use Rattle.rules.specs.Run.{Run}
use Rattle.rules.specs.Dry.{before, level_of}
use Rattle.rules.specs.Recording.{Line, refused, ran, lines, Totals, totals}
use Rattle.rules.specs.Repeat.{unrolled}
use Rattle.rules.specs.Speed.{Reading, ratio, spent, one, reading}

-- ---- the profiles

-- the first of two values at level 0, the other above
abbrev pub by_level : ℕ → ℕ → ℕ → ℕ
by_level low high zero = low
by_level low high (suc q) = high

-- Three: a chain 0, 1, 2; deadlines 0; each action 2 average, 4 worst at level 0, and 6, 8 at level 1. Its cycle is 20, and others in case 7.
abbrev pub three : ℕ → Profile
three cycle = record {
  n = 3;
  levels = 2;
  cycle = cycle;
  mask = λ a. get_or (0 ∷ 1 ∷ 2 ∷ []) a 0;
  deadline = λ a. 0;
  average = λ a q. by_level 2 6 q;
  worst = λ a q. by_level 4 8 q;
}

-- Case 8: deadlines 9, 6, 5, cycle 9, action 0 before 2, one level, average and worst 2 each.
abbrev pub eight : Profile
eight = record {
  n = 3;
  levels = 1;
  cycle = 9;
  mask = λ a. get_or (0 ∷ 0 ∷ 1 ∷ []) a 0;
  deadline = λ a. get_or (9 ∷ 6 ∷ 5 ∷ []) a 0;
  average = λ a q. 2;
  worst = λ a q. 2;
}

-- Falling: a chain of four, cycle 20, deadlines 0; average/worst at level 0, then at level 1: 8/8 and 8/8, 1/2 and 6/12, 1/2 and 2/3, 1/2 and 4/14. Its
-- 2005 limit at level 1 falls from position 2 to 3.
abbrev pub falling : Profile
falling = record {
  n = 4;
  levels = 2;
  cycle = 20;
  mask = λ a. get_or (0 ∷ 1 ∷ 2 ∷ 4 ∷ []) a 0;
  deadline = λ a. 0;
  average = λ a q. by_level (get_or (8 ∷ 1 ∷ 1 ∷ 1 ∷ []) a 0) (get_or (8 ∷ 6 ∷ 2 ∷ 4 ∷ []) a 0) q;
  worst = λ a q. by_level (get_or (8 ∷ 2 ∷ 2 ∷ 2 ∷ []) a 0) (get_or (8 ∷ 12 ∷ 3 ∷ 14 ∷ []) a 0) q;
}

-- Around: 1 and 2 each come before the other; 0 leads into this loop, 3 comes after it.
abbrev pub around : Profile
around = record {
  n = 4;
  levels = 1;
  cycle = 9;
  mask = λ a. get_or (0 ∷ 5 ∷ 2 ∷ 4 ∷ []) a 0;
  deadline = λ a. 0;
  average = λ a q. 1;
  worst = λ a q. 2;
}

-- ---- the questions and what answers them

pub data Question : Type 0 where
  -- the image that writing packs
  written : Question
  -- the number that the image checks give, 0 for none
  checked : Question
  -- the actions in their order
  ordered : Question
  -- the limits by position and level
  printed : Question
  -- the level that the manager gives at a position and time, and whether it is late
  asked : ℕ → ℕ → Question
  -- the levels, decisions and end of a dry run over a duration for each position, the same at every level
  run : List ℕ → Question
  -- the lines and the totals of a recording of such frames
  rehearsed : List (List ℕ) → Question
  -- the speed reading of positions i to k, level q and time t
  read : ℕ → ℕ → ℕ → ℕ → Question

abbrev pub Reply : Question → Type 0
Reply written = List ℕ
Reply checked = ℕ
Reply ordered = List ℕ
Reply printed = List ℤ
Reply (asked i t) = ℕ × Bool
Reply (run durations) = List ℕ × ℕ × ℕ
Reply (rehearsed frames) = List Line × Totals
Reply (read i k q t) = Reading

-- frames that have a duration for each position, the same at every level, one after another
abbrev pub recorded : ℕ → List (List ℕ) → List ℕ
recorded L [] = []
recorded L (f ∷ fs) = cat (λ i. cat (λ q. bytes duration_bytes (get_or f i 0)) L) (length f) ++ recorded L fs

abbrev pub Answers : (F : Profile) (policy : ℕ) (question : Question) → Reply question → Type 0
Answers F policy written reply = image F ≡ reply
Answers F policy checked reply = First (image_checks (image F)) reply
Answers F policy ordered reply = (o : Order F.n) × TheOrder F o × (tab o.at F.n ≡ reply)
Answers F policy printed reply = (o : Order F.n) × TheOrder F o × (rows (limit_by policy (tables F o)) F.n F.levels ≡ reply)
Answers F policy (asked i t) reply =
    (o : Order F.n) × TheOrder F o
    × (let P = planned policy (tables F o) in Gives P t i reply.0 × ((reply.1 ≡ true) ↔ Late P t i))
Answers F policy (run durations) reply =
    (o : Order F.n) × TheOrder F o
    × (let S = tables F o in
    let d : ℕ → ℕ → ℕ = λ i q. get_or durations i 0 in
    let end : Run = before longest_coast (planned policy S) S.worst d 0 S.n in
    (tab (level_of longest_coast (planned policy S) S.worst d 0) S.n ≡ reply.0) × ((end.decisions ≡ reply.1) × (end.clock ≡ reply.2)))
Answers F policy (rehearsed durations) reply =
    (o : Order F.n) × TheOrder F o
    × (let ls : List Line = lines F.n F.levels (planner_tables policy F o) (recorded F.levels durations) in
    (ls ≡ reply.0) × (totals ls ≡ reply.1))
Answers F policy (read i k q t) reply = (o : Order F.n) × TheOrder F o × (reading (tables F o) i k q t ≡ reply)

pub record Case : Type 0 where
  pub profile : Profile
  pub policy : ℕ
  pub question : Question
  pub reply : Reply question

-- ---- the cases

-- by the policy of 2008, and by that of 2005
abbrev pub of : (F : Profile) (question : Question) → Reply question → Case
of F question reply = record { profile = F; policy = policy_2008; question = question; reply = reply }

abbrev pub in_2005 : (F : Profile) (question : Question) → Reply question → Case
in_2005 F question reply = record { profile = F; policy = policy_2005; question = question; reply = reply }

-- an action's record of Three after its mask: no deadline, then average and worst by level
abbrev pub times : List ℕ → List ℕ
times rest = 0 ∷ 0 ∷ 0 ∷ 0 ∷ 0x00 ∷ 0x00 ∷ 0x02 ∷ 0x00 ∷ 0x00 ∷ 0x04 ∷ 0x00 ∷ 0x00 ∷ 0x06 ∷ 0x00 ∷ 0x00 ∷ 0x08 ∷ rest

abbrev pub mask_bytes : ℕ → List ℕ → List ℕ
mask_bytes last rest = 0 ∷ 0 ∷ 0 ∷ 0 ∷ 0 ∷ 0 ∷ 0 ∷ last ∷ rest

abbrev pub cases : List Case
cases =
    of (three 20) written (0x10 ∷ 0x64 ∷ 0x00 ∷ 0x00 ∷ 0x00 ∷ 0xA0 ∷ mask_bytes 0 (times (mask_bytes 1 (times (mask_bytes 2 (times []))))))
    ∷ of (three 20) printed (pos 8 ∷ pos 0 ∷ pos 12 ∷ pos 6 ∷ pos 16 ∷ pos 12 ∷ [])
    -- 1 to 3
    ∷ of (three 20) (run (6 ∷ 8 ∷ 4 ∷ [])) (1 ∷ 1 ∷ 0 ∷ [], 3, 18)
    ∷ of (three 20) (run (0 ∷ 8 ∷ 8 ∷ [])) (1 ∷ 1 ∷ 1 ∷ [], 2, 16)
    ∷ of (three 20) (run (8 ∷ 4 ∷ 8 ∷ [])) (1 ∷ 0 ∷ 1 ∷ [], 3, 20)
    -- the same as a recording, with a frame between them in which an entry is too long
    ∷ of (three 20) (rehearsed ((6 ∷ 8 ∷ 4 ∷ []) ∷ (0 ∷ 8 ∷ 8 ∷ []) ∷ (0 ∷ 0 ∷ 16777216 ∷ []) ∷ (8 ∷ 4 ∷ 8 ∷ []) ∷ [])) (
      ran (record { decisions = 3; lowest = 0; end = 18; overrun = false; late = false })
          ∷ ran (record { decisions = 2; lowest = 1; end = 16; overrun = false; late = false })
          ∷ refused 16
          ∷ ran (record { decisions = 3; lowest = 0; end = 20; overrun = false; late = false })
          ∷ [],
      record { frames = 3; decisions = 8; overruns = 0; lates = 0 },
    )
    -- 4 and 5
    ∷ of (three 20) (asked 1 6) (1, false)
    ∷ of (three 20) (asked 1 7) (0, false)
    ∷ of (three 20) (asked 1 12) (0, false)
    ∷ of (three 20) (asked 1 13) (0, true)
    -- 6
    ∷ of (three 20) (read 0 2 1 0) (ratio one)
    ∷ of (three 20) (read 0 2 1 18) spent
    -- 7
    ∷ of (three 20) checked 0
    ∷ of (three 12) checked 0
    ∷ of (three 11) checked 9
    -- 8
    ∷ of eight ordered (0 ∷ 2 ∷ 1 ∷ [])
    ∷ of eight checked 0
    -- Three twice, unrolled: a body repeated
    ∷ of (unrolled (three 40) 2) printed (
    pos 16 ∷ pos 2 ∷ pos 20 ∷ pos 8 ∷ pos 24 ∷ pos 14 ∷ pos 28 ∷ pos 20 ∷ pos 32 ∷ pos 26 ∷ pos 36 ∷ pos 32 ∷ []
    )
    -- Three by the policy of 2005, where at position 1, time 7 level 1 fits that in 2008 does not (4)
    ∷ in_2005 (three 20) printed (pos 8 ∷ pos 2 ∷ pos 12 ∷ pos 8 ∷ pos 16 ∷ pos 12 ∷ [])
    ∷ in_2005 (three 20) (asked 1 7) (1, false)
    -- Falling: the limits fall along the order, and at position 1, time 8, a coast tested at its ends alone would keep level 0 at position 2 too
    ∷ in_2005 falling printed (pos 6 ∷ pos 0 ∷ pos 14 ∷ pos 4 ∷ pos 16 ∷ pos 14 ∷ pos 18 ∷ pos 6 ∷ [])
    ∷ in_2005 falling (run (8 ∷ 2 ∷ 2 ∷ 2 ∷ [])) (1 ∷ 0 ∷ 1 ∷ 0 ∷ [], 4, 14)
    ∷ of falling (run (8 ∷ 2 ∷ 2 ∷ 2 ∷ [])) (0 ∷ 0 ∷ 0 ∷ 0 ∷ [], 2, 14)
    ∷ []

-- every listed case holds
abbrev pub AllHold : List Case → Type 0
AllHold [] = Unit {0}
AllHold (c ∷ cs) = Answers c.profile c.policy c.question c.reply × AllHold cs

-- Around is refused with 8, and of the actions on its loop 1 is the lowest.
abbrev pub AroundRefused : Type 0
AroundRefused = Refuses (refused_loop blames LoopFault around below around.n ∷ []) (record { number = 8; action = 1 })
