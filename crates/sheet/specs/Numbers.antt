-- The numbers of faults and fields.
--   form_number   the number of a fault of form
--   figure        what a byte counts as a figure: 0 for `0` to 9 for `9`; any other byte as far from `0`, around at 256
--   spelled       the number that the first five bytes of a field spell, each as a figure
use Rattle.std.specs.Prelude.{ℕ, ◌+◌, ◌%◌, List, map, take}
use Rattle.std.specs.Int.Digits.{number_from_digits}
use Rattle.sheet.specs.declared.FormFault.{FormFault}
use Rattle.sheet.specs.declared.FormFault.TheVariants.{TooLong, Mark, Field, Separator, Count, Trailing}

abbrev pub form_number : FormFault → ℕ
form_number TooLong = 30
form_number Mark = 31
form_number Field = 32
form_number Separator = 33
form_number Count = 34
form_number Trailing = 35

abbrev pub figure : ℕ → ℕ
figure b = (b + 208) % 256

abbrev pub spelled : List ℕ → ℕ
spelled fs = number_from_digits 10 (map figure (take 5 fs))
