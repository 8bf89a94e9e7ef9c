-- A heap extends itself, what extends one that extends it, and what it becomes with one more thing.
use Rattle.std.proofs.Common.{◌≡◌, ◌∙◌, ℕ, List, [], ◌∷◌, ◌++◌, ap, sym, refl, append_assoc, append-nil}
use Rattle.py_heap.specs.declared.value.Value.{Value}
use Rattle.py_heap.specs.Heap.{Objects, Entries, with_text, with_list, with_tuple, with_dict, with_shown}
use Rattle.py_host.specs.Extends.{Extends}

-- a list with more behind it
abbrev More : {X : Type 0} → List X → List X → Type 0
More {X = X} old new = (more : List X) × (new ≡ old ++ more)

none_more : {X : Type 0} (xs : List X) → More xs xs
none_more xs = ([], sym (append-nil xs))

more_more : {X : Type 0} (a b c : List X) → More a b → More b c → More a c
more_more a b c p q = (p.0 ++ q.0, q.1 ∙ ap (λ xs. xs ++ q.0) p.1 ∙ append_assoc a p.0 q.0)

pub extends_same : (h : Objects) → Extends h h
extends_same h = record { texts = none_more h.texts; lists = none_more h.lists; tuples = none_more h.tuples; dicts = none_more h.dicts }

pub extends_joined : (a b c : Objects) → Extends a b → Extends b c → Extends a c
extends_joined a b c p q = record {
  texts = more_more a.texts b.texts c.texts p.texts q.texts;
  lists = more_more a.lists b.lists c.lists p.lists q.lists;
  tuples = more_more a.tuples b.tuples c.tuples p.tuples q.tuples;
  dicts = more_more a.dicts b.dicts c.dicts p.dicts q.dicts;
}

pub extends_text : (h : Objects) (text : List ℕ) → Extends h (with_text h text)
extends_text h text = record { texts = (text ∷ [], refl); lists = none_more h.lists; tuples = none_more h.tuples; dicts = none_more h.dicts }

pub extends_list : (h : Objects) (items : List Value) → Extends h (with_list h items)
extends_list h items = record { texts = none_more h.texts; lists = (items ∷ [], refl); tuples = none_more h.tuples; dicts = none_more h.dicts }

pub extends_tuple : (h : Objects) (items : List Value) → Extends h (with_tuple h items)
extends_tuple h items = record { texts = none_more h.texts; lists = none_more h.lists; tuples = (items ∷ [], refl); dicts = none_more h.dicts }

pub extends_dict : (h : Objects) (entries : Entries) → Extends h (with_dict h entries)
extends_dict h entries = record { texts = none_more h.texts; lists = none_more h.lists; tuples = none_more h.tuples; dicts = (entries ∷ [], refl) }

pub extends_shown : (h : Objects) (object : ℕ) (text : List ℕ) → Extends h (with_shown h object text)
extends_shown h object text = record { texts = none_more h.texts; lists = none_more h.lists; tuples = none_more h.tuples; dicts = none_more h.dicts }
