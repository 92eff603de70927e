-- Calls, new and prim: what their uses come to. Assumes nothing.
use mathlib.Core.Path.{◌≡◌, refl, sym, ap, ◌∙◌, subst}
use mathlib.Core.Logic.{◌⊎◌, inl, inr}
use mathlib.Core.Bool.{Bool, true, false, ◌||◌}
use mathlib.Core.List.Memᴰ
use mathlib.Core.List.{List, [], ◌∷◌, Memᴰ}
use Prim.Native.Nat.{ℕ, zero, suc, ◌+◌, ◌*◌, ◌<◌}
use native.Mathlib.Nat.{add-zero}
use native.Mathlib.Decide.{ℕ_discrete}
use native.Mathlib.Omega.{arith}
use lib.Bits.{bit_and}
use lib.ListN.{length, get_or, take, drop}
use lib.Seq.{get_or-take, get_or-drop}
use Rattle.words.proofs.Bits.{On, empty-off, on-meet, meet-on}
use Rattle.rows.specs.Edition.{labels}
use Rattle.rows.specs.Row.{number, property, chain, thrown}
use Rattle.rules.specs.Table.{Table, Has, Within}
use Rattle.rules.specs.Told.{Told}
use Rattle.program.specs.Program.{Program, is_function, this_of, formals_of, names_of}
use Rattle.analysis.specs.Rules.{passing, entering, calling, making}
use Rattle.uses.specs.Use.{Apart, table_of, tells, giving, including, Used}
use Rattle.kept.specs.Promise.{chains, throws, handed, under, input, Takes, Tells, Tellings}
use Rattle.host.specs.declared.Host.{Host}
use Rattle.host.specs.Lays.{functions_in, Lays, Functions}
use Rattle.rows.specs.declared.Var.{Var}
use Rattle.records.specs.Say.{arguments, input_at}
use Rattle.shared.specs.Apply.{Applies, gathering, spreading}
use Rattle.shared.proofs.Applied.{applies-plain, applies-for, applies-then, applies-nothing}
use Rattle.lookups.specs.Passing.{handing, handing_all, object_rule}
use Rattle.lookups.proofs.Through.{applies-through, told-when, when-told}

-- ---- the functions among labels

pub functions-are : {wide : Bool} {p : Program} {host : Host} {fs : ℕ} (s : ℕ) → Lays wide p host → fs ≡ bit_and s (functions_in wide host) → Functions p fs
functions-are {wide} {p} {host} s lays e f h = (lays.functions f).0 (on-meet s (functions_in wide host) f (rw e at h)).1

pub among : {wide : Bool} {p : Program} {host : Host} {fs : ℕ} (s : ℕ) → Lays wide p host → fs ≡ bit_and s (functions_in wide host) → (f : ℕ) → On s f → is_function p.sheet f ≡ true
    → On fs f
among {wide} {host = host} s lays e f h is = rw e (meet-on s (functions_in wide host) f h ((lays.functions f).1 is))

pub held_of : {fs : ℕ} (wide : Bool) (host : Host) (s : ℕ) → fs ≡ bit_and s (functions_in wide host) → (f : ℕ) → On fs f → On s f
held_of wide host s e f h = (on-meet s (functions_in wide host) f (rw e at h)).0

-- ---- inputs

module _ {wide : Bool} {o : ℕ} {p : Program} (fs : ℕ) where
  -- variable v holds nothing
  pub hands-nothing : {x : ℕ} {t keeps : List ℕ} (v j : ℕ) → x ≡ get_or (table_of wide t) v 0 → x ≡ 0 → Applies wide o p (handing wide p fs j v) t keeps t keeps false
  hands-nothing {t = t} v j e z = applies-nothing (λ a i r l h. none l (i v l h.4))
    where
      none : (l : ℕ) → Has (table_of wide t) v l → ⊥
      none l h = empty-off l (rw (← z, e) h)

  pub hands-over : {x : ℕ} {t u keeps kept : List ℕ} {grew : Bool} (v j : ℕ) → Apart wide o → x ≡ get_or (table_of wide t) v 0
      → Applies wide o p (spreading wide p (input j) fs x) t keeps u kept grew → Applies wide o p (handing wide p fs j v) t keeps u kept grew
  hands-over v j w e a =
      applies-for w (λ b i r l h. (h.0, h.1, h.2.0, h.2.1, i v l (rw e at h.2.2))) (λ b i r l h. (h.0, h.1, (h.2, h.3, rw e (i v l h.4)))) a

  pub hands_none : {t keeps : List ℕ} (inputs : ℕ → ℕ) → Applies wide o p (handing_all wide p fs inputs 0) t keeps t keeps false
  hands_none inputs = applies-nothing (λ a i r l h. omega (arith, h.1))

  -- one input more
  pub hands_next : {t u v keeps kept left : List ℕ} {a b : Bool} (inputs : ℕ → ℕ) (j : ℕ) → Apart wide o → Applies wide o p (handing_all wide p fs inputs j) t keeps u kept a
      → Applies wide o p (handing wide p fs j (inputs j)) u kept v left b → Applies wide o p (handing_all wide p fs inputs (j + 1)) t keeps v left (a || b)
  hands_next {t} {u} {v} inputs j w first second = applies-for w forth back (applies-then w first second)
    where
      forth : (a : Table) → Within (table_of wide t) a → (r l : ℕ) → handing_all wide p fs inputs j a r l ⊎ handing wide p fs j (inputs j) a r l → handing_all wide p fs inputs (j + 1) a r l
      forth a i r l (inl h) = (h.0, omega (arith, h.1), h.2)
      forth a i r l (inr h) = (j, omega arith, h)

      back : (a : Table) → Within a (table_of wide t) → (r l : ℕ) → handing_all wide p fs inputs (j + 1) a r l → handing_all wide p fs inputs j a r l ⊎ handing wide p fs j (inputs j) a r l
      back a i r l h =
          elim (ℕ_discrete h.0 j) [
            | yes e ↦ inr (subst (λ (k : ℕ). handing wide p fs k (inputs k) a r l) e h.2)
            | no d ↦ inl (h.0, omega (arith, d, h.1), h.2)
          ]

-- ---- the formals of a function

formal-at : (formals : List ℕ) (f j : ℕ) → j < 6 → get_or (take 6 (drop (7 * f + 1) formals)) j 0 ≡ get_or formals (7 * f + suc j) 0
formal-at formals f j h =
    let e : 7 * f + 1 + j ≡ 7 * f + suc j = omega arith in
    get_or-take 6 (drop (7 * f + 1) formals) j 0 h ∙ get_or-drop (7 * f + 1) formals j 0 ∙ ap (λ (i : ℕ). get_or formals i 0) e

argument-at : (i : List Var) (j : ℕ) → j < 6 → get_or (arguments i) j 0 ≡ input_at i (suc j)
argument-at i zero h = refl
argument-at i (suc zero) h = refl
argument-at i (suc (suc zero)) h = refl
argument-at i (suc (suc (suc zero))) h = refl
argument-at i (suc (suc (suc (suc zero)))) h = refl
argument-at i (suc (suc (suc (suc (suc zero))))) h = refl
argument-at i (suc (suc (suc (suc (suc (suc j)))))) h = absurd (omega arith)

-- what is passed to one formal after the other
record Passed (t : Table) (ys args : List ℕ) (r l : ℕ) : Type 0 where
  place : ℕ
  inside : place < length args
  positive : 0 < get_or ys place 0
  row : r ≡ get_or ys place 0
  held : Has t (get_or args place 0) l

module _ (L : ℕ) (p : Program) (t : Table) (r l : ℕ) where
  told-passed : (ys args : List ℕ) → Told L t (passing p ys args) r l → Passed t ys args r l
  told-passed [] args h = absurd h
  told-passed (y ∷ ys) [] h = absurd h
  told-passed (y ∷ ys) (a ∷ args) (inl h) = record { place = 0; inside = omega arith; positive = h.0; row = h.1; held = h.2 }
  told-passed (y ∷ ys) (a ∷ args) (inr h) =
      let g = told-passed ys args h in
      record { place = suc g.place; inside = omega (arith, g.inside); positive = g.positive; row = g.row; held = g.held }

  passed-told : (ys args : List ℕ) (j : ℕ) → j < length args → 0 < get_or ys j 0 → r ≡ get_or ys j 0 → Has t (get_or args j 0) l → Told L t (passing p ys args) r l
  passed-told [] args j i z e h = absurd (omega arith)
  passed-told (y ∷ ys) [] j i z e h = absurd (omega arith)
  passed-told (y ∷ ys) (a ∷ args) zero i z e h = inl (z, e, h)
  passed-told (y ∷ ys) (a ∷ args) (suc j) i z e h = inr (passed-told ys args j (omega arith) z e h)

-- ---- a function entered

-- the parts of what entering the functions fs tells
abbrev Enters : Bool → Program → ℕ → ℕ → ℕ → List Var → Table → ℕ → ℕ → Type 0
Enters wide p k y fs inputs t r l =
    handing_all wide p fs (input_at inputs) 7 t r l
    ⊎ (gathering wide p y handed fs t r l ⊎ gathering wide p (number (labels wide) (thrown k)) throws fs t r l)

module _ (wide : Bool) (p : Program) (k y fs : ℕ) (inputs : List Var) (t : Table) (r l : ℕ) where
  -- what is entered is told of a function
  abbrev Told-of : ℕ → Type 0
  Told-of f = Told (labels wide) t (entering p k y (input_at inputs 0) (arguments inputs) f) r l

  input-told : (f j : ℕ) → j < 7 → Takes wide p (input j) f r → 0 < r → Has t (input_at inputs j) l → Told-of f
  input-told f zero i e z h =
      let q : r ≡ this_of p.sheet f = e ∙ ap (λ (n : ℕ). get_or p.sheet.formals n 0) (add-zero (7 * f)) in
      inl (rw (← q) z, q, h)
  input-told f (suc j) i e z h =
      let q : r ≡ get_or (formals_of p.sheet f) j 0 = e ∙ sym (formal-at p.sheet.formals f j (omega arith)) in
      inr (inl (passed-told (labels wide) p t r l (formals_of p.sheet f) (arguments inputs) j (omega arith) (rw (← q) z) q (rw (argument-at inputs j (omega arith)) h)))

  entered : Enters wide p k y fs inputs t r l → (f : ℕ) × On fs f × Told-of f
  entered (inl h) = (h.2.0, h.2.1, input-told h.2.0 h.0 h.1 h.2.2 h.2.3 h.2.4)
  entered (inr (inl h)) = (h.2.0, h.2.1, inr (inr (inl (h.2.2.0, h.2.2.1, (h.0, h.1, h.2.2.2)))))
  entered (inr (inr h)) = (h.2.0, h.2.1, inr (inr (inr (h.0, h.1, h.2.2))))

  enters : (f : ℕ) → On fs f → Told-of f → Enters wide p k y fs inputs t r l
  enters f i (inl h) =
      let q : r ≡ get_or p.sheet.formals (7 * f + 0) 0 = h.1 ∙ ap (λ (n : ℕ). get_or p.sheet.formals n 0) (sym (add-zero (7 * f))) in
      inl (0, omega arith, (f, i, q, rw h.1 h.0, h.2))
  enters f i (inr (inl h)) =
      let g = told-passed (labels wide) p t r l (formals_of p.sheet f) (arguments inputs) h in
      let b : g.place < 6 = g.inside in
      inl (suc g.place, omega arith, (f, i, g.row ∙ formal-at p.sheet.formals f g.place b, rw g.row g.positive, rw (← argument-at inputs g.place b) g.held))
  enters f i (inr (inr (inl h))) = inr (inl (h.2.0, h.2.1, (f, i, (h.0, h.1, h.2.2))))
  enters f i (inr (inr (inr h))) = inr (inr (h.0, h.1, (f, i, h.2)))

-- ---- calls

module _ {wide : Bool} {o : ℕ} {p : Program} {host : Host} (k y c : ℕ) (inputs : List Var) where
  -- no function is held
  pub calls-nothing : {held fs : ℕ} {t keeps : List ℕ} → Lays wide p host → held ≡ get_or (table_of wide t) c 0 → fs ≡ bit_and held (functions_in wide host) → fs ≡ 0
      → Applies wide o p (tells wide (calling p k y c (input_at inputs 0) (arguments inputs))) t keeps t keeps false
  calls-nothing {held} {fs} {t} lays is_held is-fs z = applies-nothing none
    where
      none : (a : Table) → Within a (table_of wide t) → (r l : ℕ) → Told (labels wide) a (calling p k y c (input_at inputs 0) (arguments inputs)) r l → ⊥
      none a i r l h =
          let w = when-told (labels wide) a (entering p k y (input_at inputs 0) (arguments inputs) h.0) (is_function p.sheet h.0) r l h.2 in
          let f : On fs h.0 = among held lays is-fs h.0 (rw is_held (i c h.0 h.1)) w.0 in
          empty-off h.0 (rw z at f)

  pub call-applies : {held fs : ℕ} {t u v w keeps kept left last : List ℕ} {a b d : Bool} → Apart wide o → Lays wide p host → held ≡ get_or (table_of wide t) c 0
      → fs ≡ bit_and held (functions_in wide host) → Applies wide o p (handing_all wide p fs (input_at inputs) 7) t keeps u kept a
      → Applies wide o p (gathering wide p y handed fs) u kept v left b
      → Applies wide o p (gathering wide p (number (labels wide) (thrown k)) throws fs) v left w last d
      → Applies wide o p (tells wide (calling p k y c (input_at inputs 0) (arguments inputs))) t keeps w last (a || (b || d))
  call-applies {held} {fs} {t} apart lays is_held is-fs one two three =
      applies-for apart forth back (applies-then apart one (applies-then apart two three))
    where
      forth : (a : Table) → Within (table_of wide t) a → (r l : ℕ) → Enters wide p k y fs inputs a r l
          → Told (labels wide) a (calling p k y c (input_at inputs 0) (arguments inputs)) r l
      forth a i r l h =
          let g = entered wide p k y fs inputs a r l h in (
            g.0,
            i c g.0 (rw is_held at (held_of wide host held is-fs g.0 g.1)),
            told-when (labels wide) a (entering p k y (input_at inputs 0) (arguments inputs) g.0) (is_function p.sheet g.0) r l (functions-are held lays is-fs g.0 g.1) g.2,
          )

      back : (a : Table) → Within a (table_of wide t) → (r l : ℕ) → Told (labels wide) a (calling p k y c (input_at inputs 0) (arguments inputs)) r l
          → Enters wide p k y fs inputs a r l
      back a i r l h =
          let w = when-told (labels wide) a (entering p k y (input_at inputs 0) (arguments inputs) h.0) (is_function p.sheet h.0) r l h.2 in
          enters wide p k y fs inputs a r l h.0 (among held lays is-fs h.0 (rw is_held (i c h.0 h.1)) w.0) w.1

-- ---- new

module _ {wide : Bool} {o : ℕ} {p : Program} (y c x l : ℕ) where
  pub object-applies : {held on : ℕ} {t u v w keeps kept left : List ℕ} {a b d : Bool} → Apart wide o → Used wide o (giving x l) t t u a
      → Used wide o (including y x) u u v b → held ≡ get_or (table_of wide v) c 0 → Tellings wide p chains v held 0 on keeps kept
      → Applies wide o p (gathering wide p (number (labels wide) (chain l)) (under 3) on) v kept w left d
      → Applies wide o p (tells wide (object_rule y c x l)) t keeps w left (a || (b || d))
  unfolding names_of
  object-applies {held} {on} {t} {u} {v} apart gave same is_held tell found =
      applies-then apart (applies-plain apart (λ a b i r l h. h) gave)
      (applies-then apart (applies-plain apart (λ a b i r l h. (h.0, h.1, i x l h.2)) same)
      (applies-through chains apart tell forth back found))
    where
      Found : Table → ℕ → ℕ → Type 0
      Found a r q = (f : ℕ) × Has a c f × ((m : ℕ) × Has a (number (labels wide) (chain f)) m
          × ((0 < number (labels wide) (chain l)) × (r ≡ number (labels wide) (chain l)) × Has a (number (labels wide) (property m 3)) q))

      forth : (a : Table) → Within (table_of wide v) a → ((m : ℕ) → On on m → (f : ℕ) × On held f × Tells wide p chains (table_of wide v) f m) → (r q : ℕ)
          → gathering wide p (number (labels wide) (chain l)) (under 3) on a r q → Found a r q
      forth a i source r q h =
          let g = source h.2.0 h.2.1 in
          (g.0, i c g.0 (rw is_held at g.1), (h.2.0, i (number (labels wide) (chain g.0)) h.2.0 g.2, (h.0, h.1, three h.2.2.1 h.2.2.2)))
        where
          three : {n : ℕ} → Memᴰ n (3 ∷ []) → Has a (number (labels wide) (property h.2.0 n)) q → Has a (number (labels wide) (property h.2.0 3)) q
          three {n} i j = elim (Memᴰ.cases_cons i) [ inl e ↦ rw e at j | inr m ↦ absurd (Memᴰ.not-nil m) ]

      back : (a : Table) → Within a (table_of wide v) → ((f m : ℕ) → On held f → Tells wide p chains a f m → On on m) → (r q : ℕ) → Found a r q
          → gathering wide p (number (labels wide) (chain l)) (under 3) on a r q
      back a i all r q h =
          (h.2.2.0, h.2.2.1, (h.2.0, all h.0 h.2.0 (rw is_held (i c h.0 h.1)) h.2.1, (3, Memᴰ.head refl, h.2.2.2)))

-- the object, and then the call
pub new-applies : {wide : Bool} {o : ℕ} {p : Program} {t u v keeps kept left : List ℕ} {a b : Bool} (k y c x l : ℕ) (args : List ℕ) → Apart wide o
    → Applies wide o p (tells wide (object_rule y c x l)) t keeps u kept a → Applies wide o p (tells wide (calling p k y c x args)) u kept v left b
    → Applies wide o p (tells wide (making p k y c x l args)) t keeps v left (a || b)
new-applies {wide} {o} {p} {t} k y c x l args apart made called =
    applies-for apart (λ a i r q h. forth a r q h) (λ a i r q h. back a r q h) (applies-then apart made called)
  where
    forth : (a : Table) (r q : ℕ) → Told (labels wide) a (object_rule y c x l) r q ⊎ Told (labels wide) a (calling p k y c x args) r q
        → Told (labels wide) a (making p k y c x l args) r q
    forth a r q (inl (inl h)) = inl h
    forth a r q (inl (inr (inl h))) = inr (inl h)
    forth a r q (inl (inr (inr h))) = inr (inr (inl h))
    forth a r q (inr h) = inr (inr (inr h))

    back : (a : Table) (r q : ℕ) → Told (labels wide) a (making p k y c x l args) r q
        → Told (labels wide) a (object_rule y c x l) r q ⊎ Told (labels wide) a (calling p k y c x args) r q
    back a r q (inl h) = inl (inl h)
    back a r q (inr (inl h)) = inl (inr (inl h))
    back a r q (inr (inr (inl h))) = inl (inr (inr h))
    back a r q (inr (inr (inr h))) = inr h
