-- Values that a row allows: they stay allowed as objects are added or changed, and in every row that includes theirs. Assumes nothing.
use mathlib.Core.Path.{◌≡◌, refl, ap, sym, ◌∙◌, subst}
use mathlib.Core.List.{List, [], ◌∷◌, ◌++◌, Memᴰ}
use mathlib.Core.Option.{Option}
use Prim.Native.Nat.{ℕ, zero, suc, ◌≤◌, ◌<◌}
use native.Mathlib.Omega.{arith}
use lib.ListN.{length, get_or, set, length-set, length-append, get_or-append}
use lib.Seq.{get_or-append_seam}
use Rattle.rules.specs.Table.{Table, Has}
use Rattle.machine.proofs.Laws.Writing.{field-set}
use Rattle.machine.specs.State.{Value, primitive, object, Object, no_object, or_primitive}
use Rattle.soundness.specs.Described.{label_in, Allowed, primitive-allowed, object-allowed, AllowedIfAny, nothing-there, value_there, FirstObjects}

-- ---- lists that keep the labels of what they hold

pub record Keeps (os os' : List Object) : Type 0 where
  pub longer : length os ≤ length os'
  pub labels-kept : (i : ℕ) → i < length os → label_in os' i ≡ label_in os i

pub keeps-refl : (os : List Object) → Keeps os os
keeps-refl os = record { longer = omega arith; labels-kept = λ i h. refl }

pub keeps-trans : {a b c : List Object} → Keeps a b → Keeps b c → Keeps a c
keeps-trans h k =
    record { longer = omega arith; labels-kept = λ i l. k.labels-kept i (omega (arith, h.longer)) ∙ h.labels-kept i l }

pub keeps-append : (os : List Object) (o : Object) → Keeps os (os ++ (o ∷ []))
keeps-append os o =
    record {
      longer = omega (arith, length-append os (o ∷ []));
      labels-kept = λ i h. ap (λ (x : Object). x.label) (get_or-append os (o ∷ []) no_object i h);
    }

pub keeps-set : (os : List Object) (i : ℕ) (o : Object) → o.label ≡ label_in os i → Keeps os (set os i o)
keeps-set os i o e =
    record {
      longer = omega (arith, length-set os i o);
      labels-kept = λ j h. field-set (λ (x : Object). x.label) os i o no_object e j;
    }

pub first-kept : {os os' : List Object} → Keeps os os' → FirstObjects os → FirstObjects os'
first-kept k h =
    record {
      four = omega (arith, k.longer, h.four);
      object-label = k.labels-kept 0 (omega (arith, h.four)) ∙ h.object-label;
      global-label = k.labels-kept 1 (omega (arith, h.four)) ∙ h.global-label;
      function-label = k.labels-kept 2 (omega (arith, h.four)) ∙ h.function-label;
      array-label = k.labels-kept 3 (omega (arith, h.four)) ∙ h.array-label;
    }

-- ---- allowed values

pub allowed-kept : {t : Table} {os os' : List Object} {r : ℕ} {x : Value} → Keeps os os' → Allowed t os r x → Allowed t os' r x
allowed-kept k primitive-allowed = primitive-allowed
allowed-kept k (object-allowed i h g) = object-allowed i (omega (arith, k.longer)) (rw (k.labels-kept i h) g)

pub any-kept : {t : Table} {os os' : List Object} {r : ℕ} {x : Option Value} → Keeps os os' → AllowedIfAny t os r x → AllowedIfAny t os' r x
any-kept k nothing-there = nothing-there
any-kept k (value_there x h) = value_there x (allowed-kept k h)

pub allowed-more : {t : Table} {os : List Object} {r r' : ℕ} {x : Value} → ((l : ℕ) → Has t r l → Has t r' l) → Allowed t os r x → Allowed t os r' x
allowed-more h primitive-allowed = primitive-allowed
allowed-more h (object-allowed i a g) = object-allowed i a (h _ g)

pub any-allowed : {t : Table} {os : List Object} {r : ℕ} {x : Option Value} → AllowedIfAny t os r x → Allowed t os r (or_primitive x)
any-allowed nothing-there = primitive-allowed
any-allowed (value_there x h) = h

pub is-there : {t : Table} {os : List Object} {r i : ℕ} → Allowed t os r (object i) → i < length os
is-there (object-allowed i h g) = h

pub holds-label : {t : Table} {os : List Object} {r i : ℕ} → Allowed t os r (object i) → Has t r (label_in os i)
holds-label (object-allowed i h g) = g

-- an element of a list whose members are allowed, or none
pub element-allowed : {t : Table} {os : List Object} {r : ℕ} (xs : List Value) → ((x : Value) → Memᴰ x xs → Allowed t os r x) → (i : ℕ)
    → Allowed t os r (get_or xs i primitive)
element-allowed [] h i = primitive-allowed
element-allowed (x ∷ xs) h zero = h x (Memᴰ.head refl)
element-allowed (x ∷ xs) h (suc i) = element-allowed xs (λ y m. h y (Memᴰ.tail m)) i

-- the object that is made next
pub next-allowed : {t : Table} (os : List Object) (o : Object) {r : ℕ} → Has t r o.label → Allowed t (os ++ (o ∷ [])) r (object (length os))
next-allowed {t} os o {r} h =
    object-allowed (length os) (omega (arith, length-append os (o ∷ [])))
    (subst (λ (z : Object). Has t r z.label) (sym (get_or-append_seam os o [] no_object)) h)
