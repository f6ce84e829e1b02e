-- The numbers of the rules, each by its name. What the code needs of them has the same name there.
use Rattle.std.specs.Prelude.{ℕ, ◌^◌}

-- ---- ranges

-- n, the actions of a profile: 1 to 64
abbrev pub most_actions : ℕ
most_actions = 64

-- L, its levels: 1 to 8
abbrev pub most_levels : ℕ
most_levels = 8

-- the longest cycle, the latest deadline and the latest clock: 1,073,741,823
abbrev pub last_clock : ℕ
last_clock = 1073741823

-- one more, 2 ^ 30
abbrev pub clock_end : ℕ
clock_end = 1073741824

-- the longest average, worst time and dry run entry: 16,777,215
abbrev pub longest_time : ℕ
longest_time = 16777215

-- the actions of a coast, the decided one included: 1 to 16
abbrev pub longest_coast : ℕ
longest_coast = 16

-- the records of a trace: 0 to 65,535
abbrev pub most_records : ℕ
most_records = 65535

-- the frames of a recording: 0 to 4,096
abbrev pub most_frames : ℕ
most_frames = 4096

-- N, the repeats of a body: 1 to 1,620
abbrev pub most_repeats : ℕ
most_repeats = 1620

-- the positions of a body repeated, at most 64 by 1,620: 103,680
abbrev pub most_positions : ℕ
most_positions = 103680

-- ---- the policies, by their year

abbrev pub policy_2008 : ℕ
policy_2008 = 2008

abbrev pub policy_2005 : ℕ
policy_2005 = 2005

-- ---- the image's header, 48 bits: version 4, actions 7, levels 4, cycle 30, spare 3

-- the one version there is
abbrev pub first_version : ℕ
first_version = 1

-- what the last bit of each part is worth
abbrev pub version_worth : ℕ
version_worth = 2 ^ 44

abbrev pub actions_worth : ℕ
actions_worth = 2 ^ 37

abbrev pub levels_worth : ℕ
levels_worth = 2 ^ 33

abbrev pub cycle_worth : ℕ
cycle_worth = 2 ^ 3

-- how many numbers the bits of each part can say
abbrev pub actions_said : ℕ
actions_said = 2 ^ 7

abbrev pub levels_said : ℕ
levels_said = 2 ^ 4

abbrev pub cycle_said : ℕ
cycle_said = 2 ^ 30

-- what the last bit of a record's deadline is worth, above two spare bits
abbrev pub deadline_worth : ℕ
deadline_worth = 2 ^ 2

-- ---- the image, in bytes

abbrev pub header_bytes : ℕ
header_bytes = 6

-- a record's mask and deadline with its spare bits, and then each of its levels
abbrev pub head_bytes : ℕ
head_bytes = 12

abbrev pub level_bytes : ℕ
level_bytes = 6

-- from the start of a record: its deadline, and at level 0 its average and its worst time
abbrev pub deadline_at : ℕ
deadline_at = 8

abbrev pub average_at : ℕ
average_at = 12

abbrev pub worst_at : ℕ
worst_at = 15

-- ---- the trace, in bytes

abbrev pub entry_bytes : ℕ
entry_bytes = 5

-- how many numbers a duration's 30 bits can say
abbrev pub duration_said : ℕ
duration_said = 1073741824

-- ---- the recording, in bytes

-- a duration of a frame
abbrev pub duration_bytes : ℕ
duration_bytes = 4

-- ---- the summaries of a body, in numbers

-- what a stretch is summed up by
abbrev pub summary_numbers : ℕ
summary_numbers = 4

-- ---- numbers of refusal

abbrev pub refused_short : ℕ
refused_short = 1

abbrev pub refused_version : ℕ
refused_version = 2

abbrev pub refused_count : ℕ
refused_count = 3

abbrev pub refused_length : ℕ
refused_length = 4

abbrev pub refused_spare : ℕ
refused_spare = 5

abbrev pub refused_range : ℕ
refused_range = 6

abbrev pub refused_table : ℕ
refused_table = 7

abbrev pub refused_loop : ℕ
refused_loop = 8

abbrev pub refused_unfit : ℕ
refused_unfit = 9

abbrev pub refused_finished : ℕ
refused_finished = 10

abbrev pub refused_turn : ℕ
refused_turn = 11

abbrev pub refused_back : ℕ
refused_back = 12

abbrev pub refused_clock : ℕ
refused_clock = 13

abbrev pub refused_trace : ℕ
refused_trace = 14

abbrev pub refused_name : ℕ
refused_name = 15

abbrev pub refused_duration : ℕ
refused_duration = 16

abbrev pub refused_room : ℕ
refused_room = 17

abbrev pub refused_reading : ℕ
refused_reading = 18

abbrev pub refused_repeats : ℕ
refused_repeats = 19

abbrev pub refused_policy : ℕ
refused_policy = 20
