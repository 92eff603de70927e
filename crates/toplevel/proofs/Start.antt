-- With a return at top level the machine starts as without: the return fills nothing. Assumes nothing.
use mathlib.Core.Path.{◌≡◌, refl, sym, ap, ◌∙◌}
use mathlib.Core.List.{List, [], ◌∷◌, ◌++◌, map, map-map, map-append}
use Prim.Native.Nat.{ℕ}
use native.Mathlib.Omega.{arith}
use Rattle.program.specs.Statement as say
use Rattle.program.specs.Program.{Program}
use Rattle.machine.specs.State.{State}
use Rattle.machine.specs.Start.{Filling, nothing, filling_of, fillings, labels_with, labels_from, first_labels, start_labels, unfilled, fill_one, fill, start}
use Rattle.machine.proofs.Laws.Alike.{CountAlike, count-more, unfilled-same, fill-one-same, fill-same}
use Rattle.toplevel.proofs.Bare.{bare, with_host, host-alike, Among}

labels-more : (ls : List ℕ) (xs ys : List Filling) → labels_from ls (xs ++ (nothing ∷ ys)) ≡ labels_from ls (xs ++ ys)
labels-more ls [] ys = refl
labels-more ls (x ∷ xs) ys = labels-more (labels_with ls x) xs ys

count-nothing : (xs ys : List Filling) → CountAlike xs ys → CountAlike (nothing ∷ xs) ys
count-nothing xs ys h l n = omega (arith, h l n)

module _ (q : Program) (h : List (ℕ × say.Statement)) where
  abbrev p : Program
  p = with_host q h

  -- with a filling that fills nothing among the others
  fill_more : (ls : List ℕ) (xs ys : List Filling) → CountAlike xs ys → (s : State) (front back : List Filling)
      → fill p ls xs s (front ++ (nothing ∷ back)) ≡ fill q ls ys s (front ++ back)
  fill_more ls xs ys c s [] back = fill-same p q (host-alike q h) ls (nothing ∷ xs) ys (count-nothing xs ys c) s back
  fill_more ls xs ys c s (a ∷ front) back =
      fill_more ls (a ∷ xs) (a ∷ ys) (count-more a xs ys c) (fill_one p ls xs s a) front back
      ∙ ap (λ (u : State). fill q ls (a ∷ ys) u (front ++ back)) (fill-one-same p q (host-alike q h) ls xs ys c s a)

-- what the host fills, positions aside
pub fillings-bare : (hs : List (ℕ × say.Statement)) → map (λ (s : ℕ × say.Statement). filling_of s.1) hs ≡ map filling_of (bare hs)
fillings-bare hs = sym (map-map filling_of (λ (s : ℕ × say.Statement). s.1) hs)

module _ (q : Program) (h : List (ℕ × say.Statement)) (a : Among q h) where
  front : List Filling
  front = map filling_of a.front

  back : List Filling
  back = map filling_of a.back

  fillings-with : fillings (with_host q h) ≡ front ++ (nothing ∷ back)
  unfolding front back
  fillings-with =
      fillings-bare h ∙ ap (map filling_of) a.with_it ∙ map-append filling_of a.front (say.return 0 a.value ∷ a.back)

  fillings-without : fillings q ≡ front ++ back
  unfolding front back
  fillings-without = fillings-bare q.host ∙ ap (map filling_of) a.without ∙ map-append filling_of a.front a.back

  labels-same : start_labels (with_host q h) ≡ start_labels q
  labels-same =
      ap (labels_from first_labels) fillings-with ∙ labels-more first_labels front back ∙ sym (ap (labels_from first_labels) fillings-without)

  pub start-same : start (with_host q h) ≡ start q
  start-same =
      let p = with_host q h in
      let ls = start_labels q in
      ap (λ (ms : List ℕ). fill p ms [] (unfilled p ms) (fillings p)) labels-same
      ∙ ap (fill p ls [] (unfilled p ls)) fillings-with
      ∙ fill_more q h ls [] [] (λ l n. refl) (unfilled p ls) front back
      ∙ ap (λ (s : State). fill q ls [] s (front ++ back)) (unfilled-same p q (host-alike q h) ls)
      ∙ ap (fill q ls [] (unfilled q ls)) (sym fillings-without)
