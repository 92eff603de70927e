-- The verdicts on these files, computed. Assumes nothing.
use Rattle.std.specs.Prelude.{◌≡◌, refl, [], ◌∷◌, map}
use Rattle.answer.specs.Outcome.{confined, leaks}
use Rattle.listed.specs.Listed.{judged_in, verdict_of, by-sixteen}
use Rattle.listed.specs.MoreFiles.{primitive_load, throwing_logger, returned_to_host, thrown_to_host, converted_journal, constructed_journal, stored_by_class, stored_elsewhere, array_prototype, built_in_store, more_files, more_lines}

primitive-load-line : verdict_of primitive_load ≡ leaks 5 3 151
unfolding judged_in primitive_load
primitive-load-line = by-sixteen primitive_load refl

throwing-logger-line : verdict_of throwing_logger ≡ leaks 5 3 317
unfolding judged_in throwing_logger
throwing-logger-line = by-sixteen throwing_logger refl

returned-to-host-line : verdict_of returned_to_host ≡ leaks 5 3 153
unfolding judged_in returned_to_host
returned-to-host-line = by-sixteen returned_to_host refl

thrown-to-host-line : verdict_of thrown_to_host ≡ leaks 5 3 155
unfolding judged_in thrown_to_host
thrown-to-host-line = by-sixteen thrown_to_host refl

converted-journal-line : verdict_of converted_journal ≡ leaks 5 3 319
unfolding judged_in converted_journal
converted-journal-line = by-sixteen converted_journal refl

constructed-journal-line : verdict_of constructed_journal ≡ leaks 5 3 161
unfolding judged_in constructed_journal
constructed-journal-line = by-sixteen constructed_journal refl

stored-by-class-line : verdict_of stored_by_class ≡ leaks 5 3 153
unfolding judged_in stored_by_class
stored-by-class-line = by-sixteen stored_by_class refl

stored-elsewhere-line : verdict_of stored_elsewhere ≡ confined 52
unfolding judged_in stored_elsewhere
stored-elsewhere-line = by-sixteen stored_elsewhere refl

array-prototype-line : verdict_of array_prototype ≡ leaks 5 3 156
unfolding judged_in array_prototype
array-prototype-line = by-sixteen array_prototype refl

built-in-store-line : verdict_of built_in_store ≡ confined 56
unfolding judged_in built_in_store
built-in-store-line = by-sixteen built_in_store refl

pub more : map verdict_of more_files ≡ more_lines
unfolding more_files more_lines
more = λ i. primitive-load-line i ∷ throwing-logger-line i ∷ returned-to-host-line i ∷ thrown-to-host-line i ∷ converted-journal-line i ∷ constructed-journal-line i ∷ stored-by-class-line i ∷ stored-elsewhere-line i ∷ array-prototype-line i ∷ built-in-store-line i ∷ []
