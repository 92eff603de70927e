-- Records: what is refused of a whole one, and what a good one makes of the sheet (document 01, "The statement file").
-- Assumes nothing.
use Rattle.std.specs.Prelude.{List, ◌≡◌, Bool, false, cond, not, ◌&&◌, ℕ, ◌<◌, get_or, drop, eqb}
use Rattle.layout.specs.Layout.{fields_of, body_length}
use Rattle.format.specs.Sheet.{Sheet, no_profile, known, declared, with_mask, with_label, with_forbidden, with_function, with_variable, with_profile}
use Rattle.format.specs.Fields.{Fits, first_bad}

-- "one byte of kind, then a body"
pub record Record : Type 0 where
  pub kind : ℕ
  pub body : List ℕ

-- field j of a body, from 0
abbrev pub field : List ℕ → ℕ → ℕ
field b j = get_or b j 0

-- kind 5: "255 is no name, and the only one allowed where the owner isn't 0"
unfoldable pub misnamed : ℕ → List ℕ → Bool
misnamed k b = eqb k 5 && (not (eqb (field b 1) 0) && not (eqb (field b 2) 255))

-- "a name, label, variable or function declared twice"; kind 9 "may stand once in a file", "a repeat 6" (request 04)
unfoldable pub twice : Sheet → ℕ → List ℕ → Bool
twice s k b =
    let n = field b 0 in
    cond (eqb k 1) (not (eqb (get_or s.masks n 0) 0))
    (cond (eqb k 2) (declared s n)
    (cond (eqb k 4) (not (eqb (get_or s.defined n 0) 0))
    (cond (eqb k 5) (known s n)
    (cond (eqb k 9) (not (eqb s.profile no_profile))
    false))))

-- the sheet with the record of kind k and body b
unfoldable pub after : Sheet → ℕ → List ℕ → Sheet
after s k b =
    cond (eqb k 1) (with_mask s (field b 0) (field b 1))
    (cond (eqb k 2) (with_label s (field b 0) (field b 1) (field b 2))
    (cond (eqb k 3) (with_forbidden s (field b 0))
    (cond (eqb k 4) (with_function s (field b 0) (drop 1 b))
    (cond (eqb k 5) (with_variable s (field b 0) (field b 1) (field b 2))
    (cond (eqb k 9) (with_profile s (field b 0))
    s)))))

-- a record that may stand where the records before it made the sheet s
pub record WellFormed (L : ℕ) (s : Sheet) (r : Record) : Type 0 where
  pub kind-known : 0 < body_length r.kind
  pub fits : Fits L s (fields_of r.kind) r.body
  pub well-named : misnamed r.kind r.body ≡ false
  pub once : twice s r.kind r.body ≡ false

-- once a body is whole: "from the left, 3 .., 4 .., 5 ..; 6 last", 0 where nothing is refused
unfoldable pub whole_refusal : Sheet → ℕ → List ℕ → ℕ
whole_refusal s k b = cond (misnamed k b) 5 (cond (twice s k b) 6 0)

unfoldable pub body_refusal : ℕ → Sheet → ℕ → List ℕ → ℕ
body_refusal L s k b =
    let f = first_bad L s (fields_of k) b in
    cond (eqb f 0) (whole_refusal s k b) f
