-- Statements: what the records of kinds 5 to 8 and 16 to 26 say (document 01, "The statement file"). A kind of record that says something new is
-- a constructor here, a line of `statements_of`, a rule in the crate analysis and a step in the crate machine. Assumes nothing.
use Rattle.std.specs.Prelude.{List, [], ◌∷◌, cond, ℕ, drop, eqb}
use Rattle.format.specs.Records.{Record, field}

pub data Statement : Type 0 where
  named : ℕ → ℕ → Statement  -- 5: variable v is named n
  grant : ℕ → ℕ → Statement  -- 6: v, granted to the guest whose bag is the second
  property : ℕ → ℕ → ℕ → Statement  -- 7: l, n, l'
  held : ℕ → ℕ → Statement  -- 8: v, l
  copy : ℕ → ℕ → ℕ → Statement  -- 16: k, y, source
  load : ℕ → ℕ → ℕ → ℕ → ℕ → Statement  -- 17: k, y, object, key, w
  store : ℕ → ℕ → ℕ → ℕ → Statement  -- 18: k, object, key, value
  make : ℕ → ℕ → ℕ → Statement  -- 19: k, y, l
  make_function : ℕ → ℕ → ℕ → ℕ → Statement  -- 20: k, y, l, q
  call : ℕ → ℕ → ℕ → ℕ → List ℕ → Statement  -- 21: k, y, callee, this, arguments
  new : ℕ → ℕ → ℕ → ℕ → ℕ → List ℕ → Statement  -- 22: k, y, callee, t, l, arguments
  return : ℕ → ℕ → Statement  -- 23: k, value
  throw : ℕ → ℕ → Statement  -- 24: k, value
  catch : ℕ → ℕ → Statement  -- 25: k, y
  prim : ℕ → ℕ → Statement  -- 26: k, object

-- the variable of a guest's bag: "variable 1 is the guest's bag"
abbrev pub bag : ℕ
bag = 1

-- what a record says; records of kinds 1 to 4 and 9 and nameless variables only declare
unfoldable pub statements_of : Record → List Statement
statements_of r =
    let b = r.body in
    let k = r.kind in
    cond (eqb k 5) (cond (eqb (field b 2) 255) [] (named (field b 0) (field b 2) ∷ []))
    (cond (eqb k 6) (grant (field b 0) bag ∷ [])
    (cond (eqb k 7) (property (field b 0) (field b 1) (field b 2) ∷ [])
    (cond (eqb k 8) (held (field b 0) (field b 1) ∷ [])
    (cond (eqb k 16) (copy (field b 0) (field b 1) (field b 2) ∷ [])
    (cond (eqb k 17) (load (field b 0) (field b 1) (field b 2) (field b 3) (field b 4) ∷ [])
    (cond (eqb k 18) (store (field b 0) (field b 1) (field b 2) (field b 3) ∷ [])
    (cond (eqb k 19) (make (field b 0) (field b 1) (field b 2) ∷ [])
    (cond (eqb k 20) (make_function (field b 0) (field b 1) (field b 2) (field b 3) ∷ [])
    (cond (eqb k 21) (call (field b 0) (field b 1) (field b 2) (field b 3) (drop 4 b) ∷ [])
    (cond (eqb k 22) (new (field b 0) (field b 1) (field b 2) (field b 3) (field b 4) (drop 5 b) ∷ [])
    (cond (eqb k 23) (return (field b 0) (field b 1) ∷ [])
    (cond (eqb k 24) (throw (field b 0) (field b 1) ∷ [])
    (cond (eqb k 25) (catch (field b 0) (field b 1) ∷ [])
    (cond (eqb k 26) (prim (field b 0) (field b 1) ∷ [])
    []))))))))))))))
