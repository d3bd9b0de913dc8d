-- The sizes and bounds of document 01, each written once.
use Rattle.std.specs.Prelude.{ℕ, ◌*◌, ◌-◌, ◌^◌}

-- slots, and so entries of a slot table
abbrev pub slot_count : ℕ
slot_count = 16384

-- the most nodes that a roster has, and the report times of that many nodes about each other
abbrev pub node_room : ℕ
node_room = 64

abbrev pub report_count : ℕ
report_count = node_room * node_room

-- the most move marks
abbrev pub mark_room : ℕ
mark_room = 16

-- what an unowned slot's entry is written as
abbrev pub unowned : ℕ
unowned = 65535

-- the greatest epoch
abbrev pub top : ℕ
top = 2 ^ 63 - 1

-- times are below this
abbrev pub time_end : ℕ
time_end = 2 ^ 48

-- T, in milliseconds
abbrev pub least_timeout : ℕ
least_timeout = 100

abbrev pub most_timeout : ℕ
most_timeout = 600000
