-- The figures that bound everything, each the largest number allowed.
--   value_limit  a value of a walk, a key of a queue
--   cost_limit   a leg's cost, a hall's bound
--   dwell_limit  a running time's dwell
--   cell_limit   the cells that a queue works in
--   slot_limit   a ring's slots
--   width_limit  the width of a wheel's compartments
use Rattle.std.specs.Prelude.{ℕ}

abbrev pub value_limit : ℕ
value_limit = 16777215

abbrev pub cost_limit : ℕ
cost_limit = 4095

abbrev pub dwell_limit : ℕ
dwell_limit = 1000000

abbrev pub cell_limit : ℕ
cell_limit = 1600

abbrev pub slot_limit : ℕ
slot_limit = 4096

abbrev pub width_limit : ℕ
width_limit = 4096

-- the number of the refusal of a figure outside its range
abbrev pub out_of_range_number : ℕ
out_of_range_number = 9
