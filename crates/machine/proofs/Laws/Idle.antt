-- Laws of what does nothing: whatever is chosen, the state stays as it is. Assumes nothing.
use mathlib.Core.Path.{◌≡◌, refl}
use mathlib.Core.List.{List, [], ◌∷◌, Memᴰ}
use mathlib.Core.Bool.{Bool, true, false, cond}
use Prim.Native.Nat.{ℕ}
use borrow.Author.Tests.{ne_eqb}
use Rattle.format.specs.Sheet.{type_of}
use Rattle.program.specs.Program.{Program, names_of}
use Rattle.machine.specs.State.{Value, State, object_at}
use Rattle.machine.specs.Property.{store_to}
use Rattle.machine.specs.Call.{call_of, new_of}
use Rattle.machine.specs.Step.{Choice, act, member, prim_names, perform, statement_at, makes_sense, step}
use Rattle.machine.specs.Effect.{NoFunction, primitive-is-none, object-is-none, NoStore, into-primitive, into-built-in}
use Rattle.machine.specs.Laws.{CallsNothing, BuildsNothing, PrimsNothing, StoresNothing, LoadsNoOther, StoresNoOther, ReturnsNothing}

either : {s : State} (b : Bool) (s' : State) → s' ≡ s → cond b s' s ≡ s
either true s' h = h
either false s' h = refl

-- a statement that does nothing makes a step that does nothing
idle : (p : Program) (s : State) (c : Choice) → perform p c s c.frame (statement_at p c.statement).1 ≡ s → step p (act c) s ≡ s
idle p s c h = either (makes_sense p c s) (perform p c s c.frame (statement_at p c.statement).1) h

-- what is not in a list is not found there
no_member : (n : ℕ) (ns : List ℕ) → (Memᴰ n ns → ⊥) → member n ns ≡ false
no_member n [] h = refl
no_member n (m ∷ ns) h = rw (ne_eqb n m (λ e. h (Memᴰ.head e))) (no_member n ns (λ i. h (Memᴰ.tail i)))

module _ (p : Program) (s : State) where
  no_call : {x : Value} (f y : ℕ) (by_new : Bool) (this : Value) (xs : List Value) → NoFunction p s x → call_of p s f y by_new x this xs ≡ s
  no_call f y by_new this xs primitive-is-none = refl
  no_call f y by_new this xs (object-is-none i n) = rw (ne_eqb (type_of p.sheet (object_at s i).label) 2 n)

  no-new : {x : Value} (f y t l j : ℕ) (xs : List Value) → NoFunction p s x → new_of p s f y t l x j xs ≡ s
  no-new f y t l j xs primitive-is-none = refl
  no-new f y t l j xs (object-is-none i n) = rw (ne_eqb (type_of p.sheet (object_at s i).label) 2 n)

  no_store : {x : Value} (a : Value) (n j : ℕ) → NoStore p s x → store_to p s x a n j ≡ s
  no_store a n j into-primitive = refl
  no_store a n j (into-built-in i e) = rw e

module _ (p : Program) (s : State) (c : Choice) where
  pub call-of-no-function : CallsNothing p s c
  call-of-no-function k y g t args e h = idle p s c (rw e (no_call p s _ _ _ _ _ h))

  pub new-of-no-function : BuildsNothing p s c
  new-of-no-function k y g t l args e h = idle p s c (rw e (no-new p s _ _ _ _ _ _ h))

  pub prim-of-primitive : PrimsNothing p s c
  prim-of-primitive k v e h = idle p s c (rw (e, h) (either (member c.name prim_names) s refl))

  pub store-on-primitive-or-built-in : StoresNothing p s c
  store-on-primitive-or-built-in k v key a e h = idle p s c (rw e (either (member c.name (names_of p.sheet key)) _ (no_store p s _ _ _ h)))

  pub load-of-no-name : LoadsNoOther p s c
  load-of-no-name k y v key w e h = idle p s c (rw (e, no_member c.name (names_of p.sheet key) h))

  pub store-of-no-name : StoresNoOther p s c
  store-of-no-name k v key a e h = idle p s c (rw (e, no_member c.name (names_of p.sheet key) h))

  pub return-primitive-of-new : ReturnsNothing p s c
  return-primitive-of-new k v d e e' e'' n = idle p s c (rw (e, e', e'', n))
