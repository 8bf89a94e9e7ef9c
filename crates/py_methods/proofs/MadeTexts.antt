-- The length of a text that is made, behind the steps that come first.
use Rattle.std.proofs.Common.{◌≡◌, ℕ, List, [], length, Ok, Err}
use Rattle.py_text.specs.Joining.{joined}
use Rattle.py_text.specs.Replacing.{replaced}
use Rattle.py_text.specs.Sizes.{saturated}
use Rattle.py_heap.specs.declared.fault.ValueFault.{ValueFault}
use Rattle.py_heap.specs.declared.value.Value.{Value}
use Rattle.scons_base.specs.declared.limits.TheConstants.{TEXT_LIMIT}
use Rattle.py_heap.specs.Units.{Units, room}
use Rattle.py_heap.specs.Heap.{Objects}
use Rattle.py_methods.specs.TextMethods.{as_text, texts_onto, paid_join, paid_replacement}
use Rattle.py_operators.proofs.TextLengths.{made_stop, made_go}

pub join_stop : (h : Objects) (u : Units) (a : Value) (s : List ℕ) (items : List Value) (parts : List (List ℕ)) (told : ℕ) (e : ValueFault) → texts_onto h a [] items ≡ Ok parts → told ≡ saturated (length (joined s parts))
    → room TEXT_LIMIT u told ≡ Err e → paid_join h u a s items ≡ Err e
join_stop h u a s items parts told e t l r = rw t (made_stop u (joined s parts) told e l r)

pub replace_stop : (h : Objects) (u : Units) (s : List ℕ) (a x y : Value) (old new : List ℕ) (told : ℕ) (e : ValueFault) → as_text h a x ≡ Ok old → as_text h a y ≡ Ok new → told ≡ saturated (length (replaced s old new))
    → room TEXT_LIMIT u told ≡ Err e → paid_replacement h u s a x y ≡ Err e
replace_stop h u s a x y old new told e o n l r = rw (o, n) (made_stop u (replaced s old new) told e l r)

pub ruleset made_texts = (made_stop, made_go)
