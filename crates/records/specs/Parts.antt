-- What the bytes of a body are, by the record's kind: variables, labels, names and keys (document 01, "The statement file"). Assumes nothing.
use Rattle.std.specs.Prelude.{List, [], ◌∷◌, cond, ℕ, ◌+◌, get_or, eqb}
use Rattle.rows.specs.declared.Var.{Var}
use Rattle.rows.specs.declared.Label.{Label}
use Rattle.rows.specs.declared.Name.{Name}
use Rattle.records.specs.declared.Site.{Site}
use Rattle.records.specs.declared.Statement.{Statement}
use Rattle.records.specs.declared.Statement.TheVariants.{Nothing, Named, Grant, Property, Held, Copy, Load, Store, Make, MakeFunction, Call, New, Return, Throw, Catch, Convert}

abbrev pub var_in : List ℕ → ℕ → Var
var_in b j = record { 0 = get_or b j 0 }

abbrev pub label_in : List ℕ → ℕ → Label
label_in b j = record { 0 = get_or b j 0 }

abbrev pub name_in : List ℕ → ℕ → Name
name_in b j = record { 0 = get_or b j 0 }

-- 5, which says nothing of a variable without a name
abbrev pub named_in : List ℕ → Statement
named_in b = cond (eqb (get_or b 2 0) 255) Nothing (Named (var_in b 0) (name_in b 2))

-- 6 to 8
abbrev pub grant_in : List ℕ → Statement
grant_in b = Grant (var_in b 0)

abbrev pub property_in : List ℕ → Statement
property_in b = Property (label_in b 0) (name_in b 1) (label_in b 2)

abbrev pub held_in : List ℕ → Statement
held_in b = Held (var_in b 0) (label_in b 1)

-- 16 to 20; the scope, byte 0, is no rule's business
abbrev pub copy_in : List ℕ → Statement
copy_in b = Copy (var_in b 1) (var_in b 2)

abbrev pub load_in : List ℕ → Statement
load_in b = Load (var_in b 1) (var_in b 2) (get_or b 3 0) (label_in b 4)

abbrev pub store_in : List ℕ → Statement
store_in b = Store (var_in b 1) (get_or b 2 0) (var_in b 3)

abbrev pub make_in : List ℕ → Statement
make_in b = Make (var_in b 1) (label_in b 2)

abbrev pub make_function_in : List ℕ → Statement
make_function_in b = MakeFunction (var_in b 1) (label_in b 2) (label_in b 3)

-- a call whose arguments begin at byte `first`
abbrev pub site_in : List ℕ → ℕ → Site
site_in b first = record {
  scope = label_in b 0;
  result = var_in b 1;
  callee = var_in b 2;
  inputs =
      var_in b 3 ∷ var_in b first ∷ var_in b (first + 1) ∷ var_in b (first + 2) ∷ var_in b (first + 3) ∷ var_in b (first + 4) ∷ var_in b (first + 5) ∷ [];
}

-- 21 and 22
abbrev pub call_in : List ℕ → Statement
call_in b = Call (site_in b 4)

abbrev pub new_in : List ℕ → Statement
new_in b = New (site_in b 5) (label_in b 4)

-- 24 to 26
abbrev pub throw_in : List ℕ → Statement
throw_in b = Throw (label_in b 0) (var_in b 1)

abbrev pub catch_in : List ℕ → Statement
catch_in b = Catch (label_in b 0) (var_in b 1)

abbrev pub convert_in : List ℕ → Statement
convert_in b = Convert (label_in b 0) (var_in b 1)

-- a body of kind k; what is no kind here only declares
abbrev pub statement_in : ℕ → List ℕ → Statement
statement_in k b =
    cond (eqb k 5) (named_in b)
    (cond (eqb k 6) (grant_in b)
    (cond (eqb k 7) (property_in b)
    (cond (eqb k 8) (held_in b)
    (cond (eqb k 16) (copy_in b)
    (cond (eqb k 17) (load_in b)
    (cond (eqb k 18) (store_in b)
    (cond (eqb k 19) (make_in b)
    (cond (eqb k 20) (make_function_in b)
    (cond (eqb k 21) (call_in b)
    (cond (eqb k 22) (new_in b)
    (cond (eqb k 23) Return
    (cond (eqb k 24) (throw_in b)
    (cond (eqb k 25) (catch_in b)
    (cond (eqb k 26) (convert_in b)
    Nothing))))))))))))))
