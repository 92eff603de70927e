-- The outcomes of the operations, the word in which an outcome is handed over, and how each part is read back from it. The word has room for all that
-- document 02 adds. Assumes nothing.
use Rattle.std.specs.Prelude.{◌≡◌, ◌⊎◌, cond, ℕ, ◌+◌, ◌*◌, ◌/◌, ◌%◌, ◌^◌, ◌<◌, ◌≤◌, eqb, ltb}

-- demand 1: "confined, leaks with the lowest forbidden label held, or a numbered refusal with its position; to a file with a finished table it is
-- accepted or a refusal"
pub data Outcome : Type 0 where
  confined : ℕ → Outcome  -- the fact count
  leaks : ℕ → ℕ → ℕ → Outcome  -- the label, "the guest's label beside the forbidden one" (Req 11), and the fact count
  accepted : ℕ → Outcome  -- a count, 0 for the check; Req 05: "the number of entries as count"
  refused : ℕ → ℕ → Outcome  -- the number, 1 to 16 but 11, and the position
  holds : ℕ → ℕ → Outcome  -- refusal 11: its position, which is the label held, and the guest's label; "the check's 11 picks and names the same way"
  choice : ℕ → Outcome  -- Req 12: "The choice is a word, bit i for the i-th such record from 0", of at most 12
  none_helps : Outcome  -- Req 12: "If guest 3 leaks even without them, none helps"

-- ---- the parts of an outcome

pub record Parts : Type 0 where
  pub kind : ℕ  -- which outcome it is
  pub number : ℕ  -- of a refusal
  pub position : ℕ
  pub label : ℕ
  pub guest : ℕ  -- the guest's label
  pub count : ℕ
  pub choice : ℕ  -- the word of a choice

abbrev pub parts : ℕ → ℕ → ℕ → ℕ → ℕ → ℕ → ℕ → Parts
parts k n at l g c w = record { kind = k; number = n; position = at; label = l; guest = g; count = c; choice = w }

-- "label, count and position are 0 in any outcome that is not said to have them", and so are the others
abbrev pub parts_of : Outcome → Parts
parts_of (confined c) = parts 0 0 0 0 0 c 0
parts_of (leaks l g c) = parts 1 0 0 l g c 0
parts_of (accepted c) = parts 2 0 0 0 0 c 0
parts_of (refused n at) = parts 3 n at 0 0 0 0
parts_of (holds at g) = parts 3 11 at 0 g 0 0
parts_of (choice w) = parts 4 0 0 0 0 0 w
parts_of none_helps = parts 5 0 0 0 0 0 0

-- ---- the word

-- a refusal from 1 to 15 has its number in bits 0 to 3 and its position above, where that of 11 ends at bit 16. Otherwise bits 0 to 3 are 0 and which
-- outcome it is stands in bits 4 to 7; above them the position of refusal 16, the label of leaks or a choice, and a count from bit 32. The guest's label
-- stands from bit 17
abbrev pub packed : Outcome → ℕ
packed (confined c) = c * 2 ^ 32
packed (leaks l g c) = 1 * 2 ^ 4 + l * 2 ^ 8 + g * 2 ^ 17 + c * 2 ^ 32
packed (accepted c) = 2 * 2 ^ 4 + c * 2 ^ 32
packed (refused n at) = cond (eqb n 16) (3 * 2 ^ 4 + at * 2 ^ 8) (n + at * 2 ^ 4)
packed (holds at g) = 11 + at * 2 ^ 4 + g * 2 ^ 17
packed (choice w) = 4 * 2 ^ 4 + w * 2 ^ 8
packed none_helps = 5 * 2 ^ 4

-- what there is room for; the position of 13 is a place in a run of words, and may need 60 bits
abbrev pub Ranged : Outcome → Type 0
Ranged (confined c) = c < 2 ^ 22
Ranged (leaks l g c) = (l < 2 ^ 9) × (g < 2 ^ 8) × (c < 2 ^ 22)
Ranged (accepted c) = c < 2 ^ 22
Ranged (refused n at) = ((1 ≤ n) × (n < 16) × (n ≡ 11 → ⊥) × (at < 2 ^ 60)) ⊎ ((n ≡ 16) × (at < 2 ^ 56))
Ranged (holds at g) = (at < 2 ^ 13) × (g < 2 ^ 8)
Ranged (choice w) = w < 2 ^ 12
Ranged none_helps = Unit {0}

-- ---- reading it back

-- that many bits of w, from bit b up
abbrev pub field : ℕ → ℕ → ℕ → ℕ
field b bits w = w / 2 ^ b % 2 ^ bits

abbrev pub kind_in : ℕ → ℕ
kind_in w = cond (eqb (field 0 4 w) 0) (field 4 4 w) 3

abbrev pub number_in : ℕ → ℕ
number_in w = cond (eqb (field 0 4 w) 0) (cond (eqb (field 4 4 w) 3) 16 0) (field 0 4 w)

abbrev pub position_in : ℕ → ℕ
position_in w =
    cond (eqb (number_in w) 0) 0 (cond (eqb (number_in w) 11) (field 4 13 w) (cond (eqb (number_in w) 16) (field 8 56 w) (field 4 60 w)))

abbrev pub label_in : ℕ → ℕ
label_in w = cond (eqb (kind_in w) 1) (field 8 9 w) 0

abbrev pub guest_in : ℕ → ℕ
guest_in w = cond (eqb (kind_in w) 1) (field 17 8 w) (cond (eqb (number_in w) 11) (field 17 8 w) 0)

abbrev pub count_in : ℕ → ℕ
count_in w = cond (ltb (kind_in w) 3) (field 32 22 w) 0

abbrev pub choice_in : ℕ → ℕ
choice_in w = cond (eqb (kind_in w) 4) (field 8 12 w) 0

abbrev pub parts_in : ℕ → Parts
parts_in w = parts (kind_in w) (number_in w) (position_in w) (label_in w) (guest_in w) (count_in w) (choice_in w)

-- every part of the outcome is read back from its word
abbrev pub ReadBack : Outcome → Type 0
ReadBack o = parts_in (packed o) ≡ parts_of o
