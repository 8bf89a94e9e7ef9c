-- Which methods a value has, and how many arguments each takes, as far as this subset has them.
use Rattle.std.specs.Prelude.{ℕ, Bool, true, false, ◌==◌, ◌||◌, nat_le}
use Rattle.py_heap.specs.declared.value.Value.{Value}
use Rattle.py_heap.specs.declared.value.Value.TheVariants as v
use Rattle.py_methods.specs.declared.name.Name.{Name}
use Rattle.py_methods.specs.declared.name.Name.TheVariants as name

-- "String Methods" in the Python library reference
abbrev pub of_text : Name → Bool
of_text name.Split = true
of_text name.Strip = true
of_text name.Lstrip = true
of_text name.Rstrip = true
of_text name.Startswith = true
of_text name.Endswith = true
of_text name.Replace = true
of_text name.Join = true
of_text name.Find = true
of_text name.Lower = true
of_text name.Upper = true
of_text other = false

-- "Mutable Sequence Types"
abbrev pub of_list : Name → Bool
of_list name.Append = true
of_list name.Extend = true
of_list name.Insert = true
of_list name.Pop = true
of_list name.Remove = true
of_list name.Index = true
of_list name.Reverse = true
of_list name.Sort = true
of_list other = false

-- "Mapping Types"
abbrev pub of_dict : Name → Bool
of_dict name.Get = true
of_dict name.Keys = true
of_dict name.Values = true
of_dict name.Items = true
of_dict name.Update = true
of_dict name.Setdefault = true
of_dict name.Copy = true
of_dict other = false

-- other values have none
abbrev pub has_method : Value → Name → Bool
has_method (v.Text id) name = of_text name
has_method (v.List id) name = of_list name
has_method (v.Dict id) name = of_dict name
has_method other name = false

-- the numbers of arguments that a method takes
abbrev pub takes : Name → ℕ → Bool
takes name.Split n = nat_le n 1
takes name.Strip n = n == 0
takes name.Lstrip n = n == 0
takes name.Rstrip n = n == 0
takes name.Startswith n = n == 1
takes name.Endswith n = n == 1
takes name.Replace n = n == 2
takes name.Join n = n == 1
takes name.Find n = n == 1
takes name.Lower n = n == 0
takes name.Upper n = n == 0
takes name.Append n = n == 1
takes name.Extend n = n == 1
takes name.Insert n = n == 2
takes name.Pop n = nat_le n 1
takes name.Remove n = n == 1
takes name.Index n = n == 1
takes name.Reverse n = n == 0
takes name.Sort n = n == 0
takes name.Get n = n == 1 || n == 2
takes name.Keys n = n == 0
takes name.Values n = n == 0
takes name.Items n = n == 0
takes name.Update n = n == 1
takes name.Setdefault n = n == 1 || n == 2
takes name.Copy n = n == 0
