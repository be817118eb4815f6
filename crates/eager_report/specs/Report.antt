-- How a report is printed.
use Rattle.std.specs.Prelude.{ℕ, List, [], ◌∷◌, ◌++◌, codes}
use Rattle.std.specs.List.{flat_map}
use Rattle.eager_report.specs.declared.report.Report.{Report}

-- a text with the end of a line
abbrev pub line_of : List ℕ → List ℕ
line_of text = text ++ 10 ∷ []

-- the lines of failures, or that there is none
abbrev pub findings : List (List ℕ) → List (List ℕ)
findings [] = codes "All is good!" ∷ []
findings (line ∷ lines) = line ∷ lines

-- What was logged, and then the failures or `All is good!`, each on a line of its own.
abbrev pub report_bytes : Report → List ℕ
report_bytes report = flat_map line_of report.logs ++ flat_map line_of (findings report.lines)
