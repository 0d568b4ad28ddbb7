-- Kinds of conditions: their numbers, and what each looks at.
use Rattle.std.specs.Prelude.{ℕ, Bool, true, false, ◌==◌, if◌then◌else◌}
use Rattle.house.specs.declared.tables.Kind.{Kind}
use Rattle.house.specs.declared.tables.Kind.TheVariants.{Test, Not, Both, Either, Unknown}

-- the kind that a number of a record stands for: 0 is a test, 1 not a, 2 a and b, 3 a or b, and no other is one
abbrev pub kind_of : ℕ → Kind
kind_of n =
    if n == 0 then Test else
    if n == 1 then Not else
    if n == 2 then Both else
    if n == 3 then Either else Unknown n

-- a kind of condition
abbrev pub is_known : Kind → Bool
is_known Test = true
is_known Not = true
is_known Both = true
is_known Either = true
is_known (Unknown n) = false

-- a kind that looks at a test
abbrev pub names_test : Kind → Bool
names_test Test = true
names_test Not = false
names_test Both = false
names_test Either = false
names_test (Unknown n) = false

-- a kind that looks at an earlier condition a
abbrev pub names_first : Kind → Bool
names_first Test = false
names_first Not = true
names_first Both = true
names_first Either = true
names_first (Unknown n) = true

-- a kind that looks at an earlier condition b too
abbrev pub names_second : Kind → Bool
names_second Test = false
names_second Not = false
names_second Both = true
names_second Either = true
names_second (Unknown n) = true
