-- The line that a program prints of an outcome, without the labels in the guest's bag. Assumes nothing.
use Rattle.std.specs.Prelude.{ℕ, List, ◌++◌, codes, decimal}
use Rattle.answer.specs.Outcome.{Outcome, confined, leaks, accepted, refused, holds, choice, none_helps}

-- document 01, "Listed files": "`confined 45` (verdict, facts)", "Leaks prints `leaks LABEL FACTS`"; "a refusal only `refused NUMBER POSITION`"
abbrev pub line : Outcome → List ℕ
line (confined count) = codes "confined " ++ decimal count
line (leaks label guest count) = codes "leaks " ++ decimal label ++ codes " " ++ decimal count
line (accepted count) = codes "accepted"
line (refused number position) = codes "refused " ++ decimal number ++ codes " " ++ decimal position
line (holds label guest) = codes "refused 11 " ++ decimal label
line (choice word) = codes "choice " ++ decimal word
line none_helps = codes "none helps"
