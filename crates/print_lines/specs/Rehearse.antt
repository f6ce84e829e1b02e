-- What is printed of a recording: a line for each frame, and one of totals after them.
use Rattle.std.specs.Prelude.{ℕ, List, [], ◌∷◌}
use Rattle.rules.specs.Words.{one_if}
use Rattle.rules.specs.Refusals.{kept}
use Rattle.recording.specs.declared.Line.{Line}
use Rattle.recording.specs.declared.Totals.{Totals}
use Rattle.text.specs.Digits.{decimal, line}
use Rattle.print_lines.specs.Lines.{four_line, refused_text}

-- decisions, lowest level, end, overrun, late (1 or 0); the refusal of a frame that was not run
unfoldable pub line_text : Line → List ℕ
line_text l =
    kept l.refusal.number
    (line (decimal l.decisions ∷ decimal l.lowest ∷ decimal l.end ∷ decimal (one_if l.overrun) ∷ decimal (one_if l.late) ∷ []))
    (refused_text l.refusal.number)

-- frames, decisions, overruns, lates
abbrev pub totals_text : Totals → List ℕ
totals_text T = four_line T.frames T.decisions T.overruns T.lates
