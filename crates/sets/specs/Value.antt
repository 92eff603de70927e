-- What a `Set` stands for: in the edition of 64 labels its first word, in that of 256 all four. Assumes nothing.
use Rattle.std.specs.Prelude.{Bool, List, [], ◌∷◌, ℕ}
use Rattle.rows.specs.Edition.{words}
use Rattle.rows.specs.Run.{number}
use Rattle.sets.specs.declared.Set.{Set}

abbrev pub words_of : Set → List ℕ
words_of s = s.a ∷ s.b ∷ s.c ∷ s.d ∷ []

unfoldable pub value : Bool → Set → ℕ
unfolding number
value wide s = number (words wide) (words_of s) 0
