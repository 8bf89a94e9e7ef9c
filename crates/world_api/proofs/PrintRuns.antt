-- Prints one after the other.
use Rattle.std.proofs.Common.{◌≡◌, ◌∙◌, ℕ, List, [], ◌++◌, take, drop, sym, ap, subst, append_assoc, append-nil, take-append-drop, refl}
use Rattle.world_api.specs.Printed.{SinkMeaning}
use Rattle.scons_base.specs.Rising.{Rose}
use Rattle.world_api.specs.Printing.{Prints, PrintsPart, Cuts}

module _ {S : Type 0} (meaning : SinkMeaning S) where
  -- nothing printed yet
  pub prints_nothing : (sink : S) → Prints meaning sink sink []
  prints_nothing sink = record { told = λ t. t; printed = λ t. sym (append-nil (meaning.text sink)); faults = refl }

  pub prints_both : (old mid new : S) (first second : List ℕ) → Prints meaning old mid first → Prints meaning mid new second → Prints meaning old new (first ++ second)
  prints_both old mid new first second p q = record {
    told = λ t. p.told (q.told t);
    printed = λ t. q.printed t ∙ (ap (λ text. text ++ second) (p.printed (q.told t)) ∙ append_assoc (meaning.text old) first second);
    faults = q.faults ∙ p.faults;
  }

  pub cut_second : (old mid new : S) (first second : List ℕ) → Prints meaning old mid first → Cuts meaning mid new second → Cuts meaning old new (first ++ second)
  cut_second old mid new first second p q = record {
    told = λ t. p.told (q.told t);
    printed = λ t. let part = q.printed t in record {
      front = first ++ part.front;
      rest = part.rest;
      parts = ap (λ text. first ++ text) part.parts ∙ sym (append_assoc first part.front part.rest);
      printed = part.printed ∙ (ap (λ text. text ++ part.front) (p.printed (q.told t)) ∙ append_assoc (meaning.text old) first part.front);
    };
    faults = subst (λ before. Rose before (meaning.faults new)) p.faults q.faults;
  }

  -- a front of a text is a front of a longer one
  pub cut_longer : (old new : S) (text more : List ℕ) → Cuts meaning old new text → Cuts meaning old new (text ++ more)
  cut_longer old new text more c = record {
    told = c.told;
    printed = λ t. let part = c.printed t in record {
      front = part.front;
      rest = part.rest ++ more;
      parts = ap (λ front. front ++ more) part.parts ∙ append_assoc part.front part.rest more;
      printed = part.printed;
    };
    faults = c.faults;
  }

  -- a write of some bytes, and then of the rest
  pub prints_rest : (old mid new : S) (count : ℕ) (text : List ℕ) → Prints meaning old mid (take count text) → Prints meaning mid new (drop count text) → Prints meaning old new text
  prints_rest old mid new count text p q = subst (Prints meaning old new) (take-append-drop count text) (prints_both old mid new (take count text) (drop count text) p q)

  pub cut_rest : (old mid new : S) (count : ℕ) (text : List ℕ) → Prints meaning old mid (take count text) → Cuts meaning mid new (drop count text) → Cuts meaning old new text
  cut_rest old mid new count text p q = subst (Cuts meaning old new) (take-append-drop count text) (cut_second old mid new (take count text) (drop count text) p q)

  -- a write that was refused
  pub cut_at_once : (old new : S) (text : List ℕ) → (meaning.tells new → meaning.tells old) → (meaning.tells new → meaning.text new ≡ meaning.text old ++ []) → Rose (meaning.faults old) (meaning.faults new) → Cuts meaning old new text
  cut_at_once old new text told printed faults = record {
    told = told;
    printed = λ t. record { front = []; rest = text; parts = refl; printed = printed t };
    faults = faults;
  }

  -- a write that took some bytes
  pub prints_some : (old new : S) (count : ℕ) (text : List ℕ) → (meaning.tells new → meaning.tells old) → (meaning.tells new → meaning.text new ≡ meaning.text old ++ take count text) → meaning.faults new ≡ meaning.faults old → Prints meaning old new (take count text)
  prints_some old new count text told printed faults = record { told = told; printed = printed; faults = faults }

  pub part_of : (old new : S) (text more : List ℕ) → Prints meaning old new text → PrintsPart meaning old new (text ++ more)
  part_of old new text more p = record {
    told = p.told;
    printed = λ t. record { front = text; rest = more; parts = refl; printed = p.printed t };
    faults = p.faults;
  }

  pub part_second : (old mid new : S) (first second : List ℕ) → Prints meaning old mid first → PrintsPart meaning mid new second → PrintsPart meaning old new (first ++ second)
  part_second old mid new first second p q = record {
    told = λ t. p.told (q.told t);
    printed = λ t. let part = q.printed t in record {
      front = first ++ part.front;
      rest = part.rest;
      parts = ap (λ text. first ++ text) part.parts ∙ sym (append_assoc first part.front part.rest);
      printed = part.printed ∙ (ap (λ text. text ++ part.front) (p.printed (q.told t)) ∙ append_assoc (meaning.text old) first part.front);
    };
    faults = q.faults ∙ p.faults;
  }
