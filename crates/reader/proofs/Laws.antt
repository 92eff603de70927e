-- Laws of reading in the form in which the loop over the records meets them. L is the number of labels. Assumes nothing.
use mathlib.Core.Path.{◌≡◌, refl, sym, ap, ◌∙◌}
use mathlib.Core.List.{List, [], ◌∷◌, map}
use mathlib.Core.Bool.{Bool, true, false, cond}
use mathlib.Core.Logic.{◌⊎◌, inl, inr}
use Prim.Native.Nat.{ℕ, suc, ◌+◌, ◌-◌, ◌≤◌, ◌<◌}
use native.Mathlib.Numerals.{add-one}
use native.Mathlib.Omega.{arith}
use lib.ListN.{length, get_or, take, drop, length-drop, drop_of_length-le, take-append-drop}
use lib.Seq.{drop-cons, drop-drop, length-take-le}
use borrow.Author.Tests.{le-ltb, lt-ltb, eq-eqb, ne_eqb}
use Rattle.std.specs.Prelude.{None}
use Rattle.std.specs.Slice.Iter.{iter_steps, iter_rest}
use Rattle.std.specs.declared.slice.Iter.{Iter}
use Rattle.layout.specs.Layout.{Class, fields_of, body_length}
use Rattle.layout.specs.Kinds.{number_of, class_meant}
use Rattle.layout.specs.declared.Kind.{Kind}
use Rattle.layout.specs.declared.Class as declared
use Rattle.layout.proofs.Table.{fields-length, some-body}
use Rattle.format.specs.Sheet.{Sheet, start}
use Rattle.format.specs.Fields.{good, refusal_of, Fits, first_bad}
use Rattle.format.specs.Records.{Record, WellFormed, after, whole_refusal, body_refusal}
use Rattle.format.specs.Reading.{Reading, stopped, preceded, record_refusal, read_from}
use Rattle.format.proofs.Fields.{refusal-not-zero, none-bad-fits}
use Rattle.format.proofs.Records.{front}
use Rattle.format.proofs.Reading.{read-end, read-refused, read-record}
use Rattle.fields.specs.Judging.{judging, field_refusal}
use Rattle.fields.proofs.Judged.{refusal-judging}

-- what the code gives of a reading
pub record Agrees (d e : Reading) : Type 0 where
  pub sheet-same : d.sheet ≡ e.sheet
  pub refusal-same : d.refusal ≡ e.refusal
  pub position-same : d.position ≡ e.position

via : {d e f : Reading} → d ≡ e → Agrees d f → Agrees e f
via p a = rw p at a

unpreceded : {at : ℕ} {r : Record} {e : Reading} (d : Reading) → Agrees (preceded at r d) e → Agrees d e
unpreceded d a = record { sheet-same = a.sheet-same; refusal-same = a.refusal-same; position-same = a.position-same }

-- the part of the file that the code hands on: a body of n bytes, of the record at `at`
abbrev pub part : List ℕ → ℕ → ℕ → List ℕ
part file at n = take (at + 1 + n - (at + 1)) (drop (at + 1) file)

pub body_is : (file : List ℕ) (at n : ℕ) → part file at n ≡ take n (drop (suc at) file)
body_is file at n = let e : at + 1 + n - (at + 1) ≡ n = omega arith in rw (e, add-one)

pub next-within : {long at n : ℕ} → at < long → n ≤ long - at - 1 → at + 1 + n ≤ long
next-within h l = omega arith

module _ (L : ℕ) where
  -- ---- the fields of a record, from the next on

  module _ (s : Sheet) (c : Class) (cs : List Class) (b : ℕ) (bs : List ℕ) where
    good-field : (t : Bool) → good L s c b ≡ t → 0 ≡ cond t 0 (refusal_of c) → first_bad L s (c ∷ cs) (b ∷ bs) ≡ first_bad L s cs bs
    unfolding first_bad
    good-field true e z = rw e
    good-field false e z = absurd (refusal-not-zero c (sym z))

    pub next-good : 0 ≡ field_refusal L (judging s.types s.owners) c b → first_bad L s (c ∷ cs) (b ∷ bs) ≡ first_bad L s cs bs
    unfolding field_refusal
    next-good z = good-field (good L s c b) refl (z ∙ refusal-judging L s c b)

    refused-field : (t : Bool) (r : ℕ) → good L s c b ≡ t → r ≡ cond t 0 (refusal_of c) → (r ≡ 0 → ⊥) → first_bad L s (c ∷ cs) (b ∷ bs) ≡ r
    unfolding first_bad
    refused-field true r e q z = absurd (z q)
    refused-field false r e q z = rw e (sym q)

    pub next-bad : (r : ℕ) → r ≡ field_refusal L (judging s.types s.owners) c b → (r ≡ 0 → ⊥) → first_bad L s (c ∷ cs) (b ∷ bs) ≡ r
    unfolding field_refusal
    next-bad r q = refused-field (good L s c b) r refl (q ∙ refusal-judging L s c b)

  none-left : (s : Sheet) (cs : List declared.Class) (bs : List ℕ) → (length cs ≡ 0) ⊎ (length bs ≡ 0) → first_bad L s (map class_meant cs) bs ≡ 0
  unfolding first_bad
  none-left s [] bs h = refl
  none-left s (c ∷ cs) [] h = refl
  none-left s (c ∷ cs) (b ∷ bs) (inl h) = absurd (omega arith)
  none-left s (c ∷ cs) (b ∷ bs) (inr h) = absurd (omega arith)

  -- the loop over them is at its end
  pub fields-done : (s : Sheet) (i : Iter declared.Class) (j : Iter ℕ) → ((u : Iter declared.Class) × iter_steps i None u) ⊎ ((u : Iter ℕ) × iter_steps j None u)
      → first_bad L s (map class_meant (iter_rest i)) (iter_rest j) ≡ 0
  fields-done s i j (inl e) = none-left s (iter_rest i) (iter_rest j) (inl e.1.0)
  fields-done s i j (inr e) = none-left s (iter_rest i) (iter_rest j) (inr e.1.0)

  -- ---- the records

  abbrev pub whole : List ℕ → Reading
  whole file = read_from L (start L) 0 file

  -- reading on from `at` with the sheet s gives what the whole file gives
  abbrev pub On : List ℕ → Sheet → ℕ → Type 0
  On file s at = Agrees (read_from L s at (drop at file)) (whole file)

  pub on-start : (file : List ℕ) → On file (start L) 0
  on-start file = record { sheet-same = refl; refusal-same = refl; position-same = refl }

  pub at-end : (file : List ℕ) (s : Sheet) (at : ℕ) → On file s at → length file ≤ at → Agrees (stopped s 0 at) (whole file)
  at-end file s at o h = via (read-end L s at) (rw (drop_of_length-le file h) at o)

  -- a record starts at `at`
  module _ (file : List ℕ) (s : Sheet) (at : ℕ) (o : On file s at) (h : at < length file) where
    stops : (r : ℕ) → record_refusal L s (get_or file at 0) (drop (suc at) file) ≡ r → (r ≡ 0 → ⊥) → Agrees (stopped s r at) (whole file)
    stops r e z =
        rw (← e)
        (via (read-refused L s at (get_or file at 0) (drop (suc at) file) (λ q. z (sym e ∙ q))) (rw (drop-cons file at 0 h) at o))

    pub unknown-kind : body_length (get_or file at 0) ≡ 0 → Agrees (stopped s 1 at) (whole file)
    unfolding record_refusal
    unknown-kind e = stops 1 (rw (eq-eqb _ _ e)) (λ z. absurd (omega arith))

    length_rest : length (drop (suc at) file) ≡ length file - at - 1
    length_rest = let e = length-drop (suc at) file in omega arith

    -- its body is n bytes long
    module _ (n : ℕ) (is : n ≡ body_length (get_or file at 0)) (some : n ≡ 0 → ⊥) where
      pub cut_short : length file - at - 1 < n → Agrees (stopped s 2 at) (whole file)
      unfolding record_refusal
      cut_short l = stops 2 (rw (← is, ne_eqb _ _ some, length_rest, lt-ltb _ _ l)) (λ z. absurd (omega arith))

      -- and all of it is there
      module _ (l : n ≤ length file - at - 1) where
        abbrev pub body : List ℕ
        body = take n (drop (suc at) file)

        body-long : length body ≡ n
        body-long = let e = length_rest in length-take-le n (drop (suc at) file) (omega arith)

        reached : record_refusal L s (get_or file at 0) (drop (suc at) file) ≡ body_refusal L s (get_or file at 0) body
        unfolding record_refusal
        reached = rw (← is, ne_eqb _ _ some, length_rest, le-ltb _ _ l)

        fields-first : (r : ℕ) → first_bad L s (fields_of (get_or file at 0)) body ≡ r → (r ≡ 0 → ⊥) → body_refusal L s (get_or file at 0) body ≡ r
        unfolding body_refusal
        fields-first r e z = rw (e, ne_eqb _ _ z)

        pub bad-field : (r : ℕ) → first_bad L s (fields_of (get_or file at 0)) body ≡ r → (r ≡ 0 → ⊥) → Agrees (stopped s r at) (whole file)
        bad-field r e z = stops r (reached ∙ fields-first r e z) z

        -- and its fields are good
        module _ (g : first_bad L s (fields_of (get_or file at 0)) body ≡ 0) where
          pub fits : Fits L s (fields_of (get_or file at 0)) body
          fits = none-bad-fits L s (fields_of (get_or file at 0)) body (body-long ∙ is) g

          then-whole : body_refusal L s (get_or file at 0) body ≡ whole_refusal s (get_or file at 0) body
          unfolding body_refusal
          then-whole = rw (eq-eqb _ _ g)

          pub bad-record : (r : ℕ) → whole_refusal s (get_or file at 0) body ≡ r → (r ≡ 0 → ⊥) → Agrees (stopped s r at) (whole file)
          bad-record r e z = stops r (reached ∙ then-whole ∙ e) z

          this : Record
          this = record { kind = get_or file at 0; body = body }

          well-formed : whole_refusal s (get_or file at 0) body ≡ 0 → WellFormed L s this
          unfolding this
          well-formed e = rw (← is) at (front L s (get_or file at 0) (drop (suc at) file) (reached ∙ then-whole ∙ e)).well-formed

          on-from : Reading
          on-from = read_from L (after s (get_or file at 0) body) (at + 1 + n) (drop (at + 1 + n) file)

          step : whole_refusal s (get_or file at 0) body ≡ 0 → read_from L s at (drop at file) ≡ preceded at this on-from
          unfolding this on-from
          step e =
              let rest = drop n (drop (suc at) file) in
              let m : suc at + n ≡ at + 1 + n = omega arith in
              let place : drop n (drop (suc at) file) ≡ drop (at + 1 + n) file = drop-drop n (suc at) file ∙ ap (λ (i : ℕ). drop i file) m in
              ap (read_from L s at) (drop-cons file at 0 h ∙ ap (λ (ys : List ℕ). get_or file at 0 ∷ ys) (sym (take-append-drop n (drop (suc at) file))))
              ∙ read-record L s at this rest (well-formed e)
              ∙ ap (λ (i : ℕ). preceded at this (read_from L (after s (get_or file at 0) body) (at + 1 + i) rest)) body-long
              ∙ ap (λ (ys : List ℕ). preceded at this (read_from L (after s (get_or file at 0) body) (at + 1 + n) ys)) place

          pub next-record : whole_refusal s (get_or file at 0) body ≡ 0 → On file (after s (get_or file at 0) body) (at + 1 + n)
          unfolding this on-from
          next-record e = unpreceded on-from (via (step e) o)

  -- ---- the same for a caller that has it all in one: a whole record of kind k, with a body of n bytes, starts at `at`

  pub record Here (file : List ℕ) (s : Sheet) (at k n : ℕ) : Type 0 where
    pub on : On file s at
    pub inside : at < length file
    pub kind-is : k ≡ get_or file at 0
    pub is : n ≡ body_length k
    pub some : n ≡ 0 → ⊥
    pub room : n ≤ length file - at - 1

  pub whole-record : {file : List ℕ} {s : Sheet} {at : ℕ} (kind : Kind) (cs : List declared.Class) → number_of kind ≡ get_or file at 0
      → map class_meant cs ≡ fields_of (number_of kind) → On file s at → at < length file → length cs ≤ length file - at - 1
      → Here file s at (number_of kind) (length cs)
  whole-record kind cs e f o h room =
      let long = fields-length cs (number_of kind) f in record {
        on = o;
        inside = h;
        kind-is = e;
        is = long;
        some = (λ z. some-body kind (sym long ∙ z));
        room = room;
      }

  pub cut-record : (file : List ℕ) (s : Sheet) (at : ℕ) (kind : Kind) (cs : List declared.Class) → number_of kind ≡ get_or file at 0
      → map class_meant cs ≡ fields_of (number_of kind) → On file s at → at < length file → length file - at - 1 < length cs
      → Agrees (stopped s 2 at) (whole file)
  cut-record file s at kind cs e f o h l =
      let long = fields-length cs (number_of kind) f in
      cut_short file s at o h (length cs) (rw e at long) (λ z. some-body kind (sym long ∙ z)) l

module _ {L : ℕ} {file : List ℕ} {s : Sheet} {at k n : ℕ} (w : Here L file s at k n) where
  here-is : n ≡ body_length (get_or file at 0)
  here-is = rw (← w.kind-is) w.is

  part_length : length (part file at n) ≡ n
  part_length = rw (body_is file at n) (body-long L file s at w.on w.inside n here-is w.some w.room)

  pub here-bad-field : (r : ℕ) → first_bad L s (fields_of k) (part file at n) ≡ r → (r ≡ 0 → ⊥) → Agrees (stopped s r at) (whole L file)
  here-bad-field r e = bad-field L file s at w.on w.inside n here-is w.some w.room r (rw (w.kind-is, body_is file at n) at e)

  module _ (g : first_bad L s (fields_of k) (part file at n) ≡ 0) where
    pub here-fits : Fits L s (fields_of k) (part file at n)
    here-fits = none-bad-fits L s (fields_of k) (part file at n) (part_length ∙ w.is) g

    pub here-bad-record : (r : ℕ) → whole_refusal s k (part file at n) ≡ r → (r ≡ 0 → ⊥) → Agrees (stopped s r at) (whole L file)
    here-bad-record r e =
        bad-record L file s at w.on w.inside n here-is w.some w.room (rw (w.kind-is, body_is file at n) at g) r (rw (w.kind-is, body_is file at n) at e)

    pub here-next : whole_refusal s k (part file at n) ≡ 0 → On L file (after s k (part file at n)) (at + 1 + n)
    here-next e =
        rw (w.kind-is, body_is file at n)
        (next-record L file s at w.on w.inside n here-is w.some w.room (rw (w.kind-is, body_is file at n) at g) (rw (w.kind-is, body_is file at n) at e))
