-- How a fault of a script is told: the name of its innermost kind, and what the kind keeps, after a space each.
use Rattle.std.specs.Prelude.{◌≡◌, ℕ, ℤ, List, [], ◌∷◌, ◌++◌, codes, Some, None, Option}
use Rattle.std.specs.Fmt.{decimal, signed_decimal}
use Rattle.scons_base.specs.declared.fault.PathFault.{PathFault}
use Rattle.scons_base.specs.declared.fault.PathFault.TheVariants as path
use Rattle.variant_dirs.specs.declared.fault.VariantFault.{VariantFault}
use Rattle.variant_dirs.specs.declared.fault.VariantFault.TheVariants as variant
use Rattle.env_subst.specs.declared.fault.SubstFault.{SubstFault}
use Rattle.env_subst.specs.declared.fault.SubstFault.TheVariants as subst
use Rattle.scons_decls.specs.declared.fault.NameFault.{NameFault}
use Rattle.scons_decls.specs.declared.fault.NameFault.TheVariants as name
use Rattle.py_heap.specs.declared.kind.ValueKind.{ValueKind}
use Rattle.py_heap.specs.declared.kind.ValueKind.TheVariants as value_kind
use Rattle.py_heap.specs.declared.key.Key.{Key}
use Rattle.py_heap.specs.declared.key.Key.TheVariants as key
use Rattle.py_heap.specs.declared.fault.ValueFault.{ValueFault}
use Rattle.py_heap.specs.declared.fault.ValueFault.TheVariants as value
use Rattle.py_meaning.specs.declared.fault.EvalKind.{EvalKind}
use Rattle.py_meaning.specs.declared.fault.EvalKind.TheVariants as eval
use Rattle.py_meaning.specs.Words.{IsNameOf}
use Rattle.py_lex.specs.declared.fault.LexKind.{LexKind}
use Rattle.py_lex.specs.declared.fault.LexKind.TheVariants as lex
use Rattle.py_parse.specs.declared.fault.ParseKind.{ParseKind}
use Rattle.py_parse.specs.declared.fault.ParseKind.TheVariants as parse
use Rattle.py_parse.specs.Outside.{spelling_of}
use Rattle.scons_host.specs.declared.end.ReadKind.{ReadKind}
use Rattle.scons_host.specs.declared.end.ReadKind.TheVariants as read
use Rattle.scons_host.specs.declared.end.FirstRule.{FirstRule}

-- the name of a kind and one thing that it keeps
abbrev pub named : List ℕ → List ℕ → List ℕ
named kind kept = kind ++ codes " " ++ kept

abbrev pub named_twice : List ℕ → List ℕ → List ℕ → List ℕ
named_twice kind first second = kind ++ codes " " ++ first ++ codes " " ++ second

abbrev pub lex_text : LexKind → List ℕ
lex_text lex.NotUtf8 = codes "NotUtf8"
lex_text lex.Tab = codes "Tab"
lex_text lex.Indent = codes "Indent"
lex_text lex.Unclosed = codes "Unclosed"
lex_text lex.BadNumber = codes "BadNumber"
lex_text lex.BadEscape = codes "BadEscape"
lex_text lex.BadByte = codes "BadByte"
lex_text lex.BadField = codes "BadField"
lex_text lex.TooLong = codes "TooLong"

abbrev pub parse_text : ParseKind → List ℕ
parse_text (parse.OutOfSubset word) = named (codes "OutOfSubset") (spelling_of word)
parse_text parse.TooDeep = codes "TooDeep"
parse_text parse.Unexpected = codes "Unexpected"

-- what is told of the place of a fault, if anything, behind its kind
abbrev pub told_behind : List ℕ → List ℕ → List ℕ
told_behind kind [] = kind
told_behind kind (b ∷ told) = named kind (b ∷ told)

abbrev pub value_kind_text : ValueKind → List ℕ
value_kind_text value_kind.Nil = codes "Nil"
value_kind_text value_kind.Bool = codes "Bool"
value_kind_text value_kind.Int = codes "Int"
value_kind_text value_kind.Text = codes "Text"
value_kind_text value_kind.List = codes "List"
value_kind_text value_kind.Tuple = codes "Tuple"
value_kind_text value_kind.Dict = codes "Dict"
value_kind_text value_kind.Func = codes "Func"
value_kind_text value_kind.Builtin = codes "Builtin"
value_kind_text value_kind.Object = codes "Object"

abbrev pub key_text : Key → List ℕ
key_text (key.Int number) = signed_decimal number
key_text (key.Text text) = text

abbrev pub mismatch_text : ValueKind → ValueKind → List ℕ
mismatch_text first second = named_twice (codes "Mismatch") (value_kind_text first) (value_kind_text second)

abbrev pub index_text : ℤ → ℕ → List ℕ
index_text place length = named_twice (codes "Index") (signed_decimal place) (decimal length)

abbrev pub value_text : ValueFault → List ℕ
value_text (value.Mismatch first second) = mismatch_text first second
value_text (value.Index place length) = index_text place length
value_text (value.Key key) = named (codes "Key") (key_text key)
value_text (value.KeyKind kind) = named (codes "Key") (value_kind_text kind)
value_text value.Overflow = codes "Overflow"
value_text value.Zero = codes "Zero"
value_text value.BadText = codes "BadText"
value_text value.NoMethod = codes "NoMethod"
value_text (value.TooBig size) = named (codes "TooBig") (decimal size)
value_text value.Deep = codes "Deep"
value_text (value.Budget used) = named (codes "Budget") (decimal used)
value_text value.Memory = codes "Memory"

-- what is called has a name by which scripts call it
abbrev pub IsEvalText : EvalKind → List ℕ → Type 0
IsEvalText (eval.Name name) text = text ≡ named (codes "Name") name
IsEvalText (eval.Value fault) text = text ≡ value_text fault
IsEvalText (eval.Args called) text = (name : List ℕ) × IsNameOf called name × (text ≡ named (codes "Args") name)
IsEvalText eval.NotCallable text = text ≡ codes "NotCallable"
IsEvalText eval.Depth text = text ≡ codes "Depth"
IsEvalText eval.Host text = text ≡ codes "Host"

abbrev pub path_text : PathFault → List ℕ
path_text path.Empty = codes "Empty"
path_text (path.BadByte place) = named (codes "BadByte") (decimal place)
path_text (path.TooLong length) = named (codes "TooLong") (decimal length)
path_text path.NotNormal = codes "NotNormal"
path_text path.Memory = codes "Memory"

abbrev pub variant_text : VariantFault → List ℕ
variant_text variant.Nested = codes "Nested"
variant_text variant.Twice = codes "Twice"
variant_text (variant.BadName fault) = path_text fault
variant_text variant.Memory = codes "Memory"

abbrev pub subst_text : SubstFault → List ℕ
subst_text (subst.BadBrace name at) = named_twice (codes "BadBrace") name (decimal at)
subst_text (subst.BadAttr name at) = named_twice (codes "BadAttr") name (decimal at)
subst_text (subst.Marks piece) = named (codes "Marks") (decimal piece)
subst_text (subst.TooLong length) = named (codes "TooLong") (decimal length)
subst_text (subst.TooMany count) = named (codes "TooMany") (decimal count)
subst_text (subst.BadPath fault) = path_text fault
subst_text subst.Memory = codes "Memory"

abbrev pub name_text : NameFault → List ℕ
name_text (name.BadArgument argument) = named (codes "BadArgument") argument
name_text (name.OutOfProfile word) = named (codes "OutOfProfile") word
name_text (name.UnknownBuilder word) = named (codes "UnknownBuilder") word
name_text name.NoSource = codes "NoSource"
name_text (name.BadSuffix path) = named (codes "BadSuffix") path
name_text name.EmptyAction = codes "EmptyAction"
name_text (name.NotExported word) = named (codes "NotExported") word
name_text (name.BadPath fault) = path_text fault
name_text (name.ShellPath path) = named (codes "BadPath") path
name_text (name.NoRule path) = named (codes "NoRule") path
name_text (name.Variant fault) = variant_text fault
name_text (name.Kinds variable) = named (codes "Kinds") variable
name_text name.ScriptDepth = codes "ScriptDepth"
name_text (name.TwoRules path) = named (codes "TwoRules") path
name_text (name.SelfSource path) = named (codes "SelfSource") path
name_text (name.Subst fault) = subst_text fault
name_text name.Memory = codes "Memory"

abbrev pub other_script_text : List ℕ → ℕ → List ℕ → List ℕ
other_script_text target line script = codes "TwoRules " ++ target ++ codes " " ++ decimal line ++ codes " " ++ script

-- a target, the line of its first rule, and the script of that where it is another one
abbrev pub two_rules_by : List ℕ → ℕ → Option (List ℕ) → List ℕ
two_rules_by target line None = named_twice (codes "TwoRules") target (decimal line)
two_rules_by target line (Some script) = other_script_text target line script

abbrev pub two_rules_text : List ℕ → FirstRule → List ℕ
two_rules_text target first = two_rules_by target first.line first.script

abbrev pub IsKindText : ReadKind → List ℕ → Type 0
IsKindText (read.NoScript path) text = text ≡ named (codes "NoScript") path
IsKindText (read.Lex kind told) text = text ≡ told_behind (lex_text kind) told
IsKindText (read.Parse kind told) text = text ≡ told_behind (parse_text kind) told
IsKindText (read.Eval kind) text = IsEvalText kind text
IsKindText (read.Name fault) text = text ≡ name_text fault
IsKindText (read.Key name) text = text ≡ named (codes "Key") name
IsKindText (read.TwoRules target first) text = text ≡ two_rules_text target first
