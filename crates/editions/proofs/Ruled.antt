-- The rules of a program are the same with the widened sheet and n labels more: none of these labels is declared, and of all others the sheet says the
-- same. Assumes nothing.
use mathlib.Core.Path.{◌≡◌, refl, ap, fun_ext, ◌∙◌}
use mathlib.Core.List.{map}
use mathlib.Core.Bool.{Bool, true, false, not}
use Prim.Native.Nat.{ℕ, zero, suc, ◌+◌, ◌*◌, ◌<◌, ◌≤◌}
use native.Mathlib.Nat.{add-zero}
use native.Mathlib.Omega.{arith}
use lib.ListN.{length, take, drop, replicate, length-drop, get_or-append, get_or-eq_default}
use lib.Seq.{take-append-le, drop-append-le}
use lib.Dec.{eqb}
use borrow.Author.Tests.{eqb-true}
use Rattle.rows.specs.Row.{chain}
use Rattle.rules.specs.Rule.{Rule, give, include, each, over, ◌also◌, every, chosen}
use Rattle.rules.proofs.Labels.{chosen-off}
use Rattle.format.specs.Sheet.{type_of, declared}
use Rattle.format.proofs.Arrays.{padded}
use Rattle.format.proofs.Later.{Sized, declared-below}
use Rattle.program.specs.Statement as say
use Rattle.program.specs.Program.{Program, statements, names_of, is_function, this_of, formals_of, returns_of}
use Rattle.analysis.specs.Rules.{parents_of, chain_rule, declared_labels, guest_chains, rules}
use Rattle.analysis.proofs.Alike.{Alike, rule-alike}
use Rattle.editions.proofs.Widened.{widened}

-- the program with the widened sheet
abbrev pub widened_program : ℕ → Program → Program
widened_program n p = record { sheet = widened n p.sheet; host = p.host; guests = p.guests }

-- numbers that do not pass the test are not chosen
chosen_more : (f : ℕ → Bool) (L n : ℕ) → ((l : ℕ) → L ≤ l → f l ≡ false) → chosen f (L + n) ≡ chosen f L
chosen_more f L zero h = ap (chosen f) (add-zero L)
chosen_more f L (suc n) h =
    let e : L + suc n ≡ L + n + 1 = omega arith in
    ap (chosen f) e ∙ chosen-off f (L + n) (h (L + n) (omega arith)) ∙ chosen_more f L n h

module _ (L n : ℕ) (p : Program) (z : Sized L p.sheet) where
  -- of a function label the widened sheet says the same
  function-below : (f : ℕ) → is_function p.sheet f ≡ true → f < L
  function-below f e = declared-below L p.sheet f z (λ d. omega (arith, eqb-true (type_of p.sheet f) 2 e))

  room : (f : ℕ) → f < L → 7 * f + 7 ≤ length p.sheet.formals
  room f h = omega (arith, z.formals-length)

  this-same : (f : ℕ) → f < L → this_of (widened n p.sheet) f ≡ this_of p.sheet f
  this-same f h = get_or-append p.sheet.formals (replicate (7 * n) 1) 0 (7 * f) (omega (arith, room f h))

  formals-same : (f : ℕ) → f < L → formals_of (widened n p.sheet) f ≡ formals_of p.sheet f
  formals-same f h =
      let xs = p.sheet.formals in
      ap (take 6) (drop-append-le (7 * f + 1) xs (replicate (7 * n) 1) (omega (arith, room f h)))
      ∙ take-append-le 6 (drop (7 * f + 1) xs) (replicate (7 * n) 1) (omega (arith, room f h, length-drop (7 * f + 1) xs))

  is-function-same : (f : ℕ) → is_function (widened n p.sheet) f ≡ is_function p.sheet f
  is-function-same f = ap (λ (t : ℕ). eqb t 2) (padded p.sheet.types n 0 f)

  -- so the rules of statements are the same
  alike : Alike (widened_program n p) p
  unfolding names_of returns_of statements
  alike =
      record {
        names_same = λ key. refl;
        built-in-same = λ l. ap (λ (t : ℕ). eqb t 1) (padded p.sheet.flags n 0 l);
        function-same = is-function-same;
        this-same = λ f e. this-same f (function-below f e);
        formals-same = λ f e. formals-same f (function-below f e);
        returns-same = λ f e. refl;
      }

  -- ---- the chains, and all together

  declared_same : declared_labels (L + n) (widened n p.sheet) ≡ declared_labels L p.sheet
  declared_same =
      ap (λ (f : ℕ → Bool). chosen f (L + n)) (fun_ext (λ l. ap (λ (t : ℕ). not (eqb t 0)) (padded p.sheet.types n 0 l)))
      ∙ chosen_more (declared p.sheet) L n
      (λ l h. ap (λ (t : ℕ). not (eqb t 0)) (get_or-eq_default p.sheet.types 0 {n = l} (omega (arith, z.types-length))))

  chain_same : (l : ℕ) → chain_rule (widened n p.sheet) l ≡ chain_rule p.sheet l
  chain_same l = λ i.
      give (chain l) l
      also over (parents_of (padded p.sheet.types n 0 l i)) (λ m. give (chain l) m)
      also each (chain l) (λ m. include (chain l) (chain m))

  pub rules-same : rules (L + n) (widened_program n p) ≡ rules L p
  unfolding rules statements
  rules-same = λ i.
      over (declared_same i) (λ l. chain_same l i)
      also guest_chains p.guests
      also every (map (λ (r : ℕ × Rule). r.1) (map (λ (a : ℕ × say.Statement). (a.0, rule-alike (widened_program n p) p alike a.1 i)) (statements p)))
