-- What objects of scripts stand for, and their numbers. Two things that are equal are one object.
use Rattle.std.specs.Prelude.{ℕ, Bool, false, ◌&&◌, nat_eq, if◌then◌else◌, List, Option, length, map, position}
use Rattle.std.specs.List.{list_any, position_or_len, range_with_len}
use Rattle.std.specs.Option.{option_and_then}
use Rattle.std.specs.Cmp.Lexicographic.{pointwise}
use Rattle.indexmap.specs.IndexSet.{insert_key, insert_all}
use Rattle.scons_calls.specs.declared.thing.Thing.{Thing}
use Rattle.scons_calls.specs.declared.thing.Thing.TheVariants as thing
use Rattle.scons_calls.specs.Names.{name_alone, names_table}

-- the things that objects stand for: the number of an object is the place of its thing
abbrev pub Things : Type 0
Things = List Thing

-- whether two things are one
abbrev pub thing_eq : Thing → Thing → Bool
thing_eq (thing.Name a) (thing.Name b) = nat_eq a.0 b.0
thing_eq (thing.Env a) (thing.Env b) = nat_eq a.0 b.0
thing_eq (thing.Method a m) (thing.Method b n) = nat_eq a.0 b.0 && nat_eq m.0 n.0
thing_eq (thing.OwnMethod a m) (thing.OwnMethod b n) = nat_eq a.0 b.0 && pointwise nat_eq m n
thing_eq (thing.Builders a) (thing.Builders b) = nat_eq a.0 b.0
thing_eq (thing.Builder a) (thing.Builder b) = nat_eq a b
thing_eq (thing.File p) (thing.File q) = pointwise nat_eq p q
thing_eq (thing.Dir p) (thing.Dir q) = pointwise nat_eq p q
thing_eq (thing.Alias m) (thing.Alias n) = pointwise nat_eq m n
thing_eq a b = false

-- the thing that a name of this number is
abbrev pub named : ℕ → Thing
named n = thing.Name (record { 0 = n })

-- the number of a thing, the next one where it has none yet, and the things after
abbrev pub numbered : Things → Thing → ℕ × Things
numbered things one = (position_or_len (thing_eq one) things, insert_key thing_eq things one)

-- what a path is where it isn't said which of the two: the directory where one was given out, else the file
abbrev pub node_at : Things → List ℕ → Thing
node_at things path = if list_any (thing_eq (thing.Dir path)) things then thing.Dir path else thing.File path

abbrev pub numbered_node : Things → List ℕ → ℕ × Things
numbered_node things path = numbered things (node_at things path)

-- the number of the object of a name, if it has been given one
abbrev pub number_of_name : Things → ℕ → Option ℕ
number_of_name things n = position (thing_eq (named n)) things

-- the number of the object that a name of scripts stands for
abbrev pub number_named : Things → List ℕ → Option ℕ
number_named things text = option_and_then (number_of_name things) (name_alone text)

-- the first so many names of SCons given objects, in their order
abbrev pub with_first_names : ℕ → Things → Things
with_first_names n things = insert_all thing_eq things (map named (range_with_len 0 n))

-- each name of SCons given its object
abbrev pub with_names : Things → Things
with_names things = with_first_names (length names_table) things
