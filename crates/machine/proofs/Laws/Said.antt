-- The statements that there are: the host's, and each guest's eight. Assumes nothing.
use mathlib.Core.Path.{ap}
use mathlib.Core.List.Memᴰ
use mathlib.Core.List.{List, [], ◌∷◌, Memᴰ}
use Prim.Native.Nat.{ℕ}
use Rattle.program.specs.Statement.{Statement}
use Rattle.program.specs.Program.{Program, Guest, no_record_position, guest_statements, placed, guests_statements, statements}
use Rattle.machine.specs.Laws.{RecordsSay, GuestsSay}
use Rattle.machine.specs.Effect.{Says}

pub records-say : (p : Program) → RecordsSay p
unfolding statements
records-say p at a m = (at, Memᴰ.append_right (guests_statements p.guests) m)

placed-in : {a : Statement} {l : List Statement} (at : ℕ) → Memᴰ a l → Memᴰ (at, a) (placed at l)
placed-in at (Memᴰ.head e) = Memᴰ.head (ap (λ (z : Statement). (at, z)) e)
placed-in at (Memᴰ.tail m) = Memᴰ.tail (placed-in at m)

among-guests : {a : Statement} {g : Guest} {gs : List Guest} → Memᴰ g gs → Memᴰ a (guest_statements g) → Memᴰ (no_record_position, a) (guests_statements gs)
unfolding guests_statements
among-guests {gs = []} n m = elim n [ ]
among-guests {gs = h ∷ gs} (Memᴰ.head e) m = Memᴰ.append_left (guests_statements gs) (placed-in no_record_position (rw e at m))
among-guests {gs = h ∷ gs} (Memᴰ.tail n) m = Memᴰ.append_right (placed no_record_position (guest_statements h)) (among-guests n m)

said : {a : Statement} {g : Guest} (p : Program) → Memᴰ g p.guests → Memᴰ a (guest_statements g) → Says p a
unfolding statements
said p n m = (no_record_position, Memᴰ.append_left p.host (among-guests n m))

pub guests-say : (p : Program) → GuestsSay p
unfolding guest_statements
guests-say p g n =
    record {
      makes-function = λ e. said p n (Memᴰ.head (rw e));
      makes-without = λ e. said p n (Memᴰ.head (rw e));
      loads = said p n (search (Memᴰ.head, Memᴰ.tail) depth 9);
      stores = said p n (search (Memᴰ.head, Memᴰ.tail) depth 9);
      calls = said p n (search (Memᴰ.head, Memᴰ.tail) depth 9);
      calls-new = said p n (search (Memᴰ.head, Memᴰ.tail) depth 9);
      returns = said p n (search (Memᴰ.head, Memᴰ.tail) depth 9);
      throws = said p n (search (Memᴰ.head, Memᴰ.tail) depth 9);
      catches = said p n (search (Memᴰ.head, Memᴰ.tail) depth 9);
    }
