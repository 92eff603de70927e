-- Programs that the machine sees alike: the same places of variables, the same types, flags and formals of labels, guests with the same labels and the
-- same names of keys. Each statement does the same in both, and where the host fills the same they start the same. Assumes nothing.
use mathlib.Core.Path.{◌≡◌, refl, ap, ap₂, ◌∙◌}
use mathlib.Core.List.{List, [], ◌∷◌}
use mathlib.Core.Bool.{Bool, true, false, cond}
use mathlib.Core.Option.{Option, none, some}
use Prim.Native.Nat.{ℕ, zero, suc, ◌+◌}
use lib.ListN.{length, replicate}
use lib.Dec.{eqb}
use Rattle.format.specs.Sheet.{Sheet, type_of, built_in, owner_of, name_of, with_profile}
use Rattle.program.specs.Statement as say
use Rattle.program.specs.Program.{Program, Guest, names_of, is_function, this_of, formals_of}
use Rattle.machine.specs.State.{Value, primitive, object, Object, Caller, State, object_at, frame_at, or_primitive, with_frame, with_object, set_object, with_value}
use Rattle.machine.specs.Lookup.{find_of}
use Rattle.machine.specs.Variable.{Place, bag, named, local, is_bag, place_of, read, read_place, read_all, write, write_place, write_all}
use Rattle.machine.specs.Property.{is_guest, prototype_of_type, prototype_for, fresh, next, make_object, make_function_object, load_from, store_to}
use Rattle.machine.specs.Call.{frame_of, enter, prototype_found, call_of, new_of, prim_of, return_to, throw_in}
use Rattle.machine.specs.Step.{Choice, member, prim_names, is_thrown, thrown_in, grant_of, perform}
use Rattle.machine.specs.Start.{Filling, property, held, nothing, labels_from, first_labels, start_objects, top_frame, first_frame, guest_frames, unfilled, is_property_of, number_among, fill_one, fill, fillings, start_labels, start}

pub record Alike (p q : Program) : Type 0 where
  pub place_same : (v : ℕ) → place_of p v ≡ place_of q v
  pub type-same : (l : ℕ) → type_of p.sheet l ≡ type_of q.sheet l
  pub built-in-same : (l : ℕ) → built_in p.sheet l ≡ built_in q.sheet l
  pub this-same : (l : ℕ) → this_of p.sheet l ≡ this_of q.sheet l
  pub formals-same : (l : ℕ) → formals_of p.sheet l ≡ formals_of q.sheet l
  pub names_same : (key : ℕ) → names_of p.sheet key ≡ names_of q.sheet key
  pub guest-same : (l : ℕ) → is_guest p.guests l ≡ is_guest q.guests l
  pub frames-same : guest_frames p.guests ≡ guest_frames q.guests

-- the class on the sheet is nothing to the machine, nor is more of a guest than its bag and its label: these are in the guest's statements
pub alike : (s : Sheet) (c : ℕ) (h k : List (ℕ × say.Statement)) (gs hs : List Guest) → ((v : ℕ) → is_bag gs v ≡ is_bag hs v)
    → ((l : ℕ) → is_guest gs l ≡ is_guest hs l) → guest_frames gs ≡ guest_frames hs
    → Alike (record { sheet = with_profile s c; host = h; guests = gs }) (record { sheet = s; host = k; guests = hs })
unfolding names_of
alike s c h k gs hs bags guests frames =
    record {
      place_same = place;
      type-same = λ l. refl;
      built-in-same = λ l. refl;
      this-same = λ l. refl;
      formals-same = λ l. refl;
      names_same = λ key. refl;
      guest-same = guests;
      frames-same = frames;
    }
  where
    place : (v : ℕ) → place_of (record { sheet = with_profile s c; host = h; guests = gs }) v ≡ place_of (record { sheet = s; host = k; guests = hs }) v
    place zero = refl
    place (suc v) = ap (λ (b : Bool). cond b bag (cond (eqb (name_of s (suc v)) 255) (local (owner_of s (suc v))) (named (name_of s (suc v))))) (bags (suc v))

-- the same number of properties for each label and name
abbrev pub CountAlike : List Filling → List Filling → Type 0
CountAlike xs ys = (l n : ℕ) → number_among l n xs ≡ number_among l n ys

pub count-more : (a : Filling) (xs ys : List Filling) → CountAlike xs ys → CountAlike (a ∷ xs) (a ∷ ys)
count-more a xs ys h l n = ap (λ (k : ℕ). cond (is_property_of l n a) 1 0 + k) (h l n)

module _ (p q : Program) (a : Alike p q) where
  -- ---- variables

  read_same : (s : State) (f v i : ℕ) → read p s f v i ≡ read q s f v i
  read_same s f v i = ap (λ (z : Place). read_place z s f v i) (a.place_same v)

  read-all-same : (s : State) (f : ℕ) (vs : List ℕ) (which : ℕ → ℕ) (i : ℕ) → read_all p s f vs which i ≡ read_all q s f vs which i
  read-all-same s f [] which i = refl
  read-all-same s f (v ∷ vs) which i = λ j. read_same s f v (which i) j ∷ read-all-same s f vs which (suc i) j

  write_same : (s : State) (f v : ℕ) (x : Value) → write p s f v x ≡ write q s f v x
  write_same s f v x = ap (λ (z : Place). write_place z s f v x) (a.place_same v)

  write-all-same : (s : State) (f : ℕ) (vs : List ℕ) (xs : List Value) → write_all p s f vs xs ≡ write_all q s f vs xs
  write-all-same s f [] xs = refl
  write-all-same s f (v ∷ vs) [] = refl
  write-all-same s f (v ∷ vs) (x ∷ xs) = write-all-same (write p s f v x) f vs xs ∙ ap (λ (u : State). write_all q u f vs xs) (write_same s f v x)

  -- ---- objects

  prototype-same : (l c : ℕ) → prototype_for p l c ≡ prototype_for q l c
  prototype-same l c = ap₂ (λ (b : Bool) (t : ℕ). cond b (prototype_of_type (suc c)) (prototype_of_type t)) (a.guest-same l) (a.type-same l)

  make_same : (s : State) (f y l c : ℕ) → make_object p s f y l c ≡ make_object q s f y l c
  make_same s f y l c =
      write_same (with_object s (fresh l (prototype_for p l c) f)) f y (next s)
      ∙ ap (λ (x : Value). write q (with_object s (fresh l x f)) f y (next s)) (prototype-same l c)

  make-function-same : (s : State) (f y l m c c' : ℕ) → make_function_object p s f y l m c c' ≡ make_function_object q s f y l m c c'
  make-function-same s f y l m c c' =
      write_same (made (prototype_for p m c') (prototype_for p l c)) f y (next (first (prototype_for p m c')))
      ∙ (λ i. write q (made (prototype-same m c' i) (prototype-same l c i)) f y (next (first (prototype-same m c' i))))
    where
      first : Value → State
      first x = with_object s (fresh m x f)

      made : Value → Value → State
      made x z = with_object (first x) (with_value (fresh l z f) 3 0 (next s))

  load_same : (s : State) (f y : ℕ) (x : Value) (w c n j : ℕ) → load_from p s f y x w c n j ≡ load_from q s f y x w c n j
  load_same s f y (object i) w c n j = write_same s f y (or_primitive (find_of s (object i) n j))
  load_same s f y primitive w c n j =
      write_same (made (prototype_for p w c)) f y (or_primitive (find_of (made (prototype_for p w c)) (next s) n j))
      ∙ ap (λ (x : Value). write q (made x) f y (or_primitive (find_of (made x) (next s) n j))) (prototype-same w c)
    where
      made : Value → State
      made x = with_object s (fresh w x f)

  store_same : (s : State) (x z : Value) (n j : ℕ) → store_to p s x z n j ≡ store_to q s x z n j
  store_same s primitive z n j = refl
  store_same s (object i) z n j =
      ap (λ (b : Bool). cond b s (set_object s i (with_value (object_at s i) n j z))) (a.built-in-same (object_at s i).label)

  -- ---- calls

  function-same : (l : ℕ) → is_function p.sheet l ≡ is_function q.sheet l
  function-same l = ap (λ (t : ℕ). eqb t 2) (a.type-same l)

  enter-same : (s : State) (f y : ℕ) (by_new : Bool) (o : Object) (this : Value) (xs : List Value) → enter p s f y by_new o this xs ≡ enter q s f y by_new o this xs
  enter-same s f y by_new o this xs =
      let g = length s.frames in
      let l = o.label in
      let called = with_frame s (frame_of o f y by_new) in
      write-all-same (write p called g (this_of p.sheet l) this) g (formals_of p.sheet l) xs
      ∙ (λ i. write_all q (write p called g (a.this-same l i) this) g (a.formals-same l i) xs)
      ∙ ap (λ (u : State). write_all q u g (formals_of q.sheet l) xs) (write_same called g (this_of q.sheet l) this)

  call_same : (s : State) (f y : ℕ) (by_new : Bool) (x this : Value) (xs : List Value) → call_of p s f y by_new x this xs ≡ call_of q s f y by_new x this xs
  call_same s f y by_new primitive this xs = refl
  call_same s f y by_new (object i) this xs =
      ap₂ (λ (b : Bool) (u : State). cond b u s) (function-same (object_at s i).label) (enter-same s f y by_new (object_at s i) this xs)

  new-same : (s : State) (f y t l : ℕ) (x : Value) (j : ℕ) (xs : List Value) → new_of p s f y t l x j xs ≡ new_of q s f y t l x j xs
  new-same s f y t l primitive j xs = refl
  new-same s f y t l (object i) j xs =
      let made = next s in
      let s' = with_object s (fresh l (prototype_found (find_of s (object i) 3 j)) f) in
      ap₂ (λ (b : Bool) (u : State). cond b u s) (function-same (object_at s i).label)
      (call_same (write p (write p s' f t made) f y made) f y true (object i) made xs
      ∙ ap (λ (u : State). call_of q u f y true (object i) made xs)
      (write_same (write p s' f t made) f y made ∙ ap (λ (u : State). write q u f y made) (write_same s' f t made)))

  prim-same : (s : State) (f : ℕ) (x : Value) (n j : ℕ) → prim_of p s f x n j ≡ prim_of q s f x n j
  prim-same s f primitive n j = refl
  prim-same s f (object i) n j = call_same s f 0 false (or_primitive (find_of s (object i) n j)) (object i) (replicate 6 primitive)

  return-same : (s : State) (c : Option Caller) (x : Value) → return_to p s c x ≡ return_to q s c x
  return-same s none x = refl
  return-same s (some c) primitive = ap (λ (u : State). cond c.by_new s u) (write_same s c.frame c.result primitive)
  return-same s (some c) (object i) = write_same s c.frame c.result (object i)

  -- ---- statements

  grant-same : (to : Bool) (s : State) (f v b i : ℕ) → grant_of p to s f v b i ≡ grant_of q to s f v b i
  grant-same true s f v b i = write_same s f b _ ∙ ap (write q s f b) (read_same s f v i)
  grant-same false s f v b i = write_same s f v _ ∙ ap (write q s f v) (read_same s f b i)

  keyed : (n key : ℕ) (s u v : State) → u ≡ v → cond (member n (names_of p.sheet key)) u s ≡ cond (member n (names_of q.sheet key)) v s
  keyed n key s u v e = ap₂ (λ (ns : List ℕ) (z : State). cond (member n ns) z s) (a.names_same key) e

  pub perform-same : (c : Choice) (s : State) (f : ℕ) (b : say.Statement) → perform p c s f b ≡ perform q c s f b
  perform-same c s f (say.named v n) = refl
  perform-same c s f (say.grant v b) = grant-same c.to_guest s f v b (c.which 0)
  perform-same c s f (say.property l n m) = refl
  perform-same c s f (say.held v l) = refl
  perform-same c s f (say.copy k y x) = write_same s f y _ ∙ ap (write q s f y) (read_same s f x (c.which 0))
  perform-same c s f (say.load k y x key u) =
      keyed c.name key s _ _
      (load_same s f y (read p s f x (c.which 0)) u c.prototype c.name c.number
      ∙ ap (λ (z : Value). load_from q s f y z u c.prototype c.name c.number) (read_same s f x (c.which 0)))
  perform-same c s f (say.store k x key b) =
      keyed c.name key s _ _
      (store_same s (read p s f x (c.which 0)) (read p s f b (c.which 1)) c.name c.number
      ∙ (λ i. store_to q s (read_same s f x (c.which 0) i) (read_same s f b (c.which 1) i) c.name c.number))
  perform-same c s f (say.make k y l) = make_same s f y l c.prototype
  perform-same c s f (say.make_function k y l m) = make-function-same s f y l m c.prototype c.prototype'
  perform-same c s f (say.call k y g u vs) =
      call_same s f y false (read p s f g (c.which 0)) (read p s f u (c.which 1)) (read_all p s f vs c.which 2)
      ∙ (λ i. call_of q s f y false (read_same s f g (c.which 0) i) (read_same s f u (c.which 1) i) (read-all-same s f vs c.which 2 i))
  perform-same c s f (say.new k y g u l vs) =
      new-same s f y u l (read p s f g (c.which 0)) c.number (read_all p s f vs c.which 2)
      ∙ (λ i. new_of q s f y u l (read_same s f g (c.which 0) i) c.number (read-all-same s f vs c.which 2 i))
  perform-same c s f (say.return k x) =
      return-same s (frame_at s f).caller (read p s f x (c.which 0)) ∙ ap (return_to q s (frame_at s f).caller) (read_same s f x (c.which 0))
  perform-same c s f (say.throw k x) = ap (throw_in s f) (read_same s f x (c.which 0))
  perform-same c s f (say.catch k y) = ap (λ (z : State). cond (is_thrown s f c.thrown) z s) (write_same s f y (thrown_in s f c.thrown))
  perform-same c s f (say.prim k x) =
      ap (λ (z : State). cond (member c.name prim_names) z s)
      (prim-same s f (read p s f x (c.which 0)) c.name c.number ∙ ap (λ (z : Value). prim_of q s f z c.name c.number) (read_same s f x (c.which 0)))

  -- ---- the start

  objects-same : (ls : List ℕ) → start_objects p ls ≡ start_objects q ls
  objects-same [] = refl
  objects-same (l ∷ ls) = λ i. fresh l (cond (eqb l 1) primitive (prototype_of_type (a.type-same l i))) top_frame ∷ objects-same ls i

  pub unfilled-same : (ls : List ℕ) → unfilled p ls ≡ unfilled q ls
  unfilled-same ls = λ i. record { objects = objects-same ls i; frames = first_frame 0 none ∷ a.frames-same i; bags = λ b. [] }

  pub fill-one-same : (ls : List ℕ) (xs ys : List Filling) → CountAlike xs ys → (s : State) (b : Filling) → fill_one p ls xs s b ≡ fill_one q ls ys s b
  fill-one-same ls xs ys c s (property l n m) = rw (c l n)
  fill-one-same ls xs ys c s (held v l) = write_same s top_frame v _
  fill-one-same ls xs ys c s nothing = refl

  pub fill-same : (ls : List ℕ) (xs ys : List Filling) → CountAlike xs ys → (s : State) (rest : List Filling) → fill p ls xs s rest ≡ fill q ls ys s rest
  fill-same ls xs ys c s [] = refl
  fill-same ls xs ys c s (b ∷ rest) =
      fill-same ls (b ∷ xs) (b ∷ ys) (count-more b xs ys c) (fill_one p ls xs s b) rest
      ∙ ap (λ (u : State). fill q ls (b ∷ ys) u rest) (fill-one-same ls xs ys c s b)

  pub start-same : fillings p ≡ fillings q → start p ≡ start q
  start-same e =
      let ls = start_labels q in
      ap (λ (fs : List Filling). fill p (labels_from first_labels fs) [] (unfilled p (labels_from first_labels fs)) fs) e
      ∙ fill-same ls [] [] (λ l n. refl) (unfilled p ls) (fillings q)
      ∙ ap (λ (s : State). fill q ls [] s (fillings q)) (unfilled-same ls)
