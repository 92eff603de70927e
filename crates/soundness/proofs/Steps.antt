-- Every step, and so every run, leaves a described state described. Assumes nothing.
use mathlib.Core.Path.{◌≡◌, refl, sym, subst}
use mathlib.Core.Logic.{◌⊎◌, inl, inr}
use mathlib.Core.List.Memᴰ
use mathlib.Core.List.{List, [], ◌∷◌, ◌++◌, Memᴰ}
use mathlib.Core.Bool.{Bool, true, false}
use Prim.Native.Nat.{ℕ, zero, suc, ◌<◌}
use native.Mathlib.Omega.{arith}
use lib.ListN.{length, get_or}
use lib.Dec.{ltb}
use borrow.Author.Tests.{eqb-true, ltb-true, eq-eqb}
use Rattle.rules.specs.Table.{Table}
use Rattle.rules.specs.Told.{Closed}
use Rattle.format.proofs.Tests.{and_first, and_second}
use Rattle.program.specs.Statement as say
use Rattle.program.specs.Program.{Program, statements, names_of, returned_by, returns_in, returns_of}
use Rattle.analysis.specs.Rules.{rule_of}
use Rattle.machine.specs.State.{State, frame_at}
use Rattle.machine.specs.Variable.{read, read_all, write}
use Rattle.machine.specs.Property.{load_from, store_to}
use Rattle.machine.specs.Call.{prim_of, hand_to}
use Rattle.machine.specs.Step.{Choice, Move, act, hand, scope_of, in_scope, member, prim_names, grant_of, thrown_in, is_thrown, perform, statement_at, makes_sense, step, run}
use Rattle.machine.proofs.Laws.Labels.{member-mem}
use Rattle.soundness.specs.Described.{Described}
use Rattle.soundness.proofs.Values.{allowed-more}
use Rattle.soundness.proofs.States.{described-thrown, described-cond}
use Rattle.soundness.proofs.Setting.{Sensible, Setting, object-on-chain}
use Rattle.soundness.proofs.Variables.{read-allowed, read-all-allowed, write-described}
use Rattle.soundness.proofs.Properties.{make-described, make-function-described, load-described, store-described}
use Rattle.soundness.proofs.Calls.{call-described, new-described, prim-described, return-described, thrown-in-allowed, hand-described}

-- ---- members of lists

pub element-mem : {A : Type 0} (xs : List A) (d : A) (i : ℕ) → i < length xs → Memᴰ (get_or xs i d) xs
element-mem [] d i h = absurd (omega arith)
element-mem (x ∷ xs) d zero h = Memᴰ.head refl
element-mem (x ∷ xs) d (suc i) h = Memᴰ.tail (element-mem xs d i (omega arith))

-- what a return in the list hands back is among the variables returned in its scope
return-listed : (ss : List (ℕ × say.Statement)) (at k x : ℕ) → Memᴰ (at, say.return k x) ss → Memᴰ x (returns_in k ss)
unfolding returns_in
return-listed [] at k x m = absurd (Memᴰ.not-nil m)
return-listed (s ∷ ss) at k x m = go (Memᴰ.cases_cons m) (return-listed ss at k x)
  where
    here : Memᴰ x (returned_by k (say.return k x))
    here = rw (eq-eqb k k refl) (Memᴰ.head refl)

    go : (◌≡◌ {A = ℕ × say.Statement} (at, say.return k x) s) ⊎ Memᴰ {A = ℕ × say.Statement} (at, say.return k x) ss
        → (Memᴰ {A = ℕ × say.Statement} (at, say.return k x) ss → Memᴰ x (returns_in k ss)) → Memᴰ x (returned_by k s.1 ++ returns_in k ss)
    go (inl e) rest = Memᴰ.append_left (returns_in k ss) (subst (λ (a : ℕ × say.Statement). Memᴰ x (returned_by k a.1)) e here)
    go (inr q) rest = Memᴰ.append_right (returned_by k s.1) (rest q)

return-handed : (p : Program) (at k x : ℕ) → Memᴰ (at, say.return k x) (statements p) → Memᴰ x (returns_of p k)
unfolding returns_of
return-handed p at k x m = return-listed (statements p) at k x m

module _ {L : ℕ} {t : Table} {p : Program} (w : Setting L t p) where
  grant-described : (to : Bool) (s : State) (f v b i : ℕ) → Described L t p s → Closed L t (rule_of p (say.grant v b))
      → Described L t p (grant_of p to s f v b i)
  grant-described true s f v b i d c = write-described w s f b (read p s f v i) d (λ q. allowed-more (c.0 q) (read-allowed w s f v i d))
  grant-described false s f v b i d c = write-described w s f v (read p s f b i) d (λ q. allowed-more (c.1 q) (read-allowed w s f b i d))

  -- one statement of the list, in a frame of its scope
  perform-described : (c : Choice) (s : State) (f at : ℕ) (a : say.Statement) → Described L t p s → Memᴰ (at, a) (statements p)
      → f < length s.frames → in_scope (scope_of a) (frame_at s f).scope ≡ true → Closed L t (rule_of p a) → Sensible p a
      → Described L t p (perform p c s f a)
  perform-described c s f at (say.named v n) d m hf hk r ok = d
  perform-described c s f at (say.grant v b) d m hf hk r ok = grant-described c.to_guest s f v b (c.which 0) d r
  perform-described c s f at (say.property l n l') d m hf hk r ok = d
  perform-described c s f at (say.held v l) d m hf hk r ok = d
  perform-described c s f at (say.copy k y x) d m hf hk r ok =
      write-described w s f y (read p s f x (c.which 0)) d (λ q. allowed-more (r q) (read-allowed w s f x (c.which 0) d))
  perform-described c s f at (say.load k y x key u) d m hf hk r ok =
      described-cond (member c.name (names_of p.sheet key)) (load_from p s f y (read p s f x (c.which 0)) u c.prototype c.name c.number) s
      (λ e. load-described w s f y (read p s f x (c.which 0)) x key u c.prototype c.name c.number d r ok (member-mem _ _ e)
      (read-allowed w s f x (c.which 0) d))
      (λ e. d)
  perform-described c s f at (say.store k x key a) d m hf hk r ok =
      described-cond (member c.name (names_of p.sheet key))
      (store_to p s (read p s f x (c.which 0)) (read p s f a (c.which 1)) c.name c.number) s
      (λ e. store-described w s (read p s f x (c.which 0)) (read p s f a (c.which 1)) x key a c.name c.number d r (member-mem _ _ e)
      (read-allowed w s f x (c.which 0) d) (read-allowed w s f a (c.which 1) d))
      (λ e. d)
  perform-described c s f at (say.make k y l) d m hf hk r ok = make-described w s f y l c.prototype d ok r
  perform-described c s f at (say.make_function k y l q) d m hf hk r ok =
      make-function-described w s f k y l q c.prototype c.prototype' d ok.0 ok.1 r
  perform-described c s f at (say.call k y g u vs) d m hf hk r ok =
      call-described w s f k y false (read p s f g (c.which 0)) (read p s f u (c.which 1)) (read_all p s f vs c.which 2) g u vs d
      (record { there = hf; of-scope = sym (eqb-true _ _ hk) }) r (read-allowed w s f g (c.which 0) d) (read-allowed w s f u (c.which 1) d)
      (read-all-allowed w s f vs c.which 2 d)
  perform-described c s f at (say.new k y g u l vs) d m hf hk r ok =
      new-described w s f k y g u l c.number (read p s f g (c.which 0)) (read_all p s f vs c.which 2) vs d
      (record { there = hf; of-scope = sym (eqb-true _ _ hk) }) r ok.0 ok.1 (object-on-chain w l ok.1 ok.2) (read-allowed w s f g (c.which 0) d)
      (read-all-allowed w s f vs c.which 2 d)
  perform-described c s f at (say.return k x) d m hf hk r ok =
      return-described w s f x (c.which 0) d (subst (λ (z : ℕ). Memᴰ x (returns_of p z)) (eqb-true _ _ hk) (return-handed p at k x m))
  perform-described c s f at (say.throw k x) d m hf hk r ok =
      described-thrown s f (read p s f x (c.which 0)) d
      (rw (← eqb-true k (frame_at s f).scope hk) (allowed-more (r (omega arith)) (read-allowed w s f x (c.which 0) d)))
  perform-described c s f at (say.catch k y) d m hf hk r ok =
      let h = thrown-in-allowed w s f c.thrown d in
      described-cond (is_thrown s f c.thrown) (write p s f y (thrown_in s f c.thrown)) s
      (λ e. write-described w s f y (thrown_in s f c.thrown) d (λ q. allowed-more (r q) (rw (← eqb-true k (frame_at s f).scope hk) at h)))
      (λ e. d)
  perform-described c s f at (say.prim k x) d m hf hk r ok =
      described-cond (member c.name prim_names) (prim_of p s f (read p s f x (c.which 0)) c.name c.number) s
      (λ e. prim-described w s f k x c.name c.number (read p s f x (c.which 0)) d (record { there = hf; of-scope = sym (eqb-true _ _ hk) }) r
      (member-mem _ _ e) (read-allowed w s f x (c.which 0) d))
      (λ e. d)

  pub step-described : (m : Move) (s : State) → Described L t p s → Described L t p (step p m s)
  step-described (act c) s d =
      let a = statement_at p c.statement in
      described-cond (makes_sense p c s) (perform p c s c.frame a.1) s
      (λ e.
      let h = and_second (ltb c.statement (length (statements p))) _ e in
      let m = element-mem (statements p) _ c.statement (ltb-true _ _ (and_first (ltb c.statement (length (statements p))) _ e)) in
      perform-described c s c.frame a.0 a.1 d m (ltb-true _ _ (and_first _ _ h)) (and_second (ltb c.frame (length s.frames)) _ h)
      (w.rule a.0 a.1 m) (w.sensible a.0 a.1 m))
      (λ e. d)
  step-described (hand f i) s d =
      described-cond (is_thrown s f i) (hand_to s (frame_at s f).caller (thrown_in s f i)) s (λ e. hand-described w s f i d) (λ e. d)

  pub run-described : (moves : List Move) (s : State) → Described L t p s → Described L t p (run p moves s)
  run-described [] s d = d
  run-described (m ∷ moves) s d = run-described moves (step p m s) (step-described m s d)
