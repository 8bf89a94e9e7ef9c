-- Lines that are printed one after the other.
use Rattle.std.proofs.Common.{◌≡◌, ◌∙◌, ℕ, List, [], ◌++◌, refl, sym, ap, subst, append_assoc, append-nil}
use Rattle.std.specs.Prelude.{Result, Ok, Err, IsErrAnd}
use Rattle.rule_graph.specs.declared.build_fault.BuildFault.{BuildFault}
use Rattle.rule_graph.specs.declared.build_fault.BuildFault.TheVariants as fault
use Rattle.world_api.specs.Printed.{SinkMeaning}
use Rattle.world_api.specs.Printing.{Prints, PrintsPart}
use Rattle.world_api.proofs.PrintRuns.{prints_nothing, prints_both, cut_second, cut_longer, part_of, part_second}
use Rattle.scons_report.specs.declared.tree_end.TreeEnd.{TreeEnd}
use Rattle.scons_report.specs.declared.tree_end.TreeEnd.TheVariants as end
use Rattle.scons_report.specs.Walks.{PrintsTree, WritesBy}
use Rattle.scons_report.proofs.Trees.{Leads}

module _ {O : Type 0} (m : SinkMeaning O) where
  -- a front of a front
  part_longer : (old new : O) (text more : List ℕ) → PrintsPart m old new text → PrintsPart m old new (text ++ more)
  part_longer old new text more p = record {
    told = p.told;
    printed = λ t. let part = p.printed t in record {
      front = part.front;
      rest = part.rest ++ more;
      parts = ap (λ front. front ++ more) part.parts ∙ append_assoc part.front part.rest more;
      printed = part.printed;
    };
    faults = p.faults;
  }

  -- an end in a text is one in a longer text
  longer_fault : (old new : O) (text more : List ℕ) (f : BuildFault) → PrintsTree {T = Unit {0}} m text old new (Err (end.Fault f)) → PrintsTree {T = Unit {0}} m (text ++ more) old new (Err (end.Fault f))
  longer_fault old new text more (fault.Missing node target) h = absurd h
  longer_fault old new text more (fault.Cycle paths) h = absurd h
  longer_fault old new text more (fault.ActionFailed target code) h = absurd h
  longer_fault old new text more (fault.TreeFault path) h = absurd h
  longer_fault old new text more (fault.StartFault target) h = absurd h
  longer_fault old new text more fault.StoreFault h = absurd h
  longer_fault old new text more fault.OutFault h = cut_longer m old new text more h
  longer_fault old new text more (fault.TooLarge path size) h = absurd h
  longer_fault old new text more (fault.TooMany what count) h = absurd h

  longer : (old new : O) (text more : List ℕ) (e : TreeEnd) → PrintsTree {T = Unit {0}} m text old new (Err e) → PrintsTree {T = Unit {0}} m (text ++ more) old new (Err e)
  longer old new text more (end.Fault f) h = longer_fault old new text more f h
  longer old new text more end.Memory h = part_longer old new text more h

  -- and one behind what is printed
  second_fault : (old mid new : O) (done text : List ℕ) (f : BuildFault) → Prints m old mid done → PrintsTree {T = Unit {0}} m text mid new (Err (end.Fault f)) → PrintsTree {T = Unit {0}} m (done ++ text) old new (Err (end.Fault f))
  second_fault old mid new done text (fault.Missing node target) p h = absurd h
  second_fault old mid new done text (fault.Cycle paths) p h = absurd h
  second_fault old mid new done text (fault.ActionFailed target code) p h = absurd h
  second_fault old mid new done text (fault.TreeFault path) p h = absurd h
  second_fault old mid new done text (fault.StartFault target) p h = absurd h
  second_fault old mid new done text fault.StoreFault p h = absurd h
  second_fault old mid new done text fault.OutFault p h = cut_second m old mid new done text p h
  second_fault old mid new done text (fault.TooLarge path size) p h = absurd h
  second_fault old mid new done text (fault.TooMany what count) p h = absurd h

  second : (old mid new : O) (done text : List ℕ) (e : TreeEnd) → Prints m old mid done → PrintsTree {T = Unit {0}} m text mid new (Err e) → PrintsTree {T = Unit {0}} m (done ++ text) old new (Err e)
  second old mid new done text (end.Fault f) p h = second_fault old mid new done text f p h
  second old mid new done text end.Memory p h = part_second m old mid new done text p h

  whole_end : (old new : O) (text whole : List ℕ) (e : TreeEnd) → whole ≡ text → PrintsTree {T = Unit {0}} m text old new (Err e) → PrintsTree {T = Unit {0}} m whole old new (Err e)
  whole_end old new text whole e is h = subst (λ (t : List ℕ). PrintsTree {T = Unit {0}} m t old new (Err e)) (sym is) h

  -- the exits of a `?`
  pub tree_exit : (old new : O) (whole : List ℕ) (e : TreeEnd) (r : Result (Unit {0}) TreeEnd) → IsErrAnd r (λ x. x ≡ e) → PrintsTree {T = Unit {0}} m whole old new (Err e) → PrintsTree m whole old new r
  tree_exit old new whole e (Ok value) is h = absurd is
  tree_exit old new whole e (Err x) is h = subst (λ (y : TreeEnd). PrintsTree {T = Unit {0}} m whole old new (Err y)) (sym is) h

  -- for want of memory before anything more is printed
  pub tree_wants : (old new : O) (done whole rest : List ℕ) (r : Result (Unit {0}) TreeEnd) → IsErrAnd r (λ x. x ≡ end.Memory) → whole ≡ done ++ rest → Prints m old new done → PrintsTree m whole old new r
  tree_wants old new done whole rest r is parts p =
      tree_exit old new whole end.Memory r is (whole_end old new (done ++ rest) whole end.Memory parts (part_of m old new done rest p))

  pub tree_wants_first : (old : O) (whole : List ℕ) (r : Result (Unit {0}) TreeEnd) → IsErrAnd r (λ x. x ≡ end.Memory) → PrintsTree m whole old old r
  tree_wants_first old whole r is = tree_wants old old [] whole whole r is refl (prints_nothing m old)

  -- the sink refused the line of a node
  pub tree_cut : (old new : O) (shown line whole : List ℕ) (e : TreeEnd) (r : Result (Unit {0}) TreeEnd) → IsErrAnd r (λ x. x ≡ e) → shown ≡ line → Leads line whole
      → PrintsTree {T = Unit {0}} m shown old new (Err e) → PrintsTree m whole old new r
  tree_cut old new shown line whole e r is same l h =
      let parts : whole ≡ shown ++ l.more = l.parts ∙ ap (λ (t : List ℕ). t ++ l.more) (sym same) in
      tree_exit old new whole e r is (whole_end old new (shown ++ l.more) whole e parts (longer old new shown l.more e h))

  -- an end behind what was printed
  pub tree_later : (old mid new : O) (done whole rest : List ℕ) (e : TreeEnd) (r : Result (Unit {0}) TreeEnd) → IsErrAnd r (λ x. x ≡ e) → whole ≡ done ++ rest → Prints m old mid done
      → PrintsTree {T = Unit {0}} m rest mid new (Err e) → PrintsTree m whole old new r
  tree_later old mid new done whole rest e r is parts p h = tree_exit old new whole e r is (whole_end old new (done ++ rest) whole e parts (second old mid new done rest e p h))

  -- the same of what is written of a node
  pub writes_end : (old new : O) (whole left : List ℕ) (r : Result (Unit {0}) TreeEnd) (e : TreeEnd) → IsErrAnd r (λ x. x ≡ e) → PrintsTree m whole old new r → WritesBy m whole left old new r
  writes_end old new whole left (Ok value) e is h = absurd is
  writes_end old new whole left (Err x) e is h = h

  -- all of it
  pub tree_all : (old new : O) (done whole rest : List ℕ) → whole ≡ done ++ rest → rest ≡ [] → Prints m old new done → Prints m old new whole
  tree_all old new done whole rest parts none p = subst (Prints m old new) (sym (parts ∙ (ap (λ (t : List ℕ). done ++ t) none ∙ append-nil done))) p

  -- one line more
  pub prints_more : (old mid new : O) (done line : List ℕ) → Prints m old mid done → Prints m mid new line → Prints m old new (done ++ line)
  prints_more old mid new done line p q = prints_both m old mid new done line p q

  -- a text, and what is printed behind it
  pub tree_then : (old mid new : O) (line whole rest : List ℕ) (r : Result (Unit {0}) TreeEnd) → whole ≡ line ++ rest → Prints m old mid line → PrintsTree m rest mid new r → PrintsTree m whole old new r
  tree_then old mid new line whole rest (Ok value) parts p h = subst (Prints m old new) (sym parts) (prints_both m old mid new line rest p h)
  tree_then old mid new line whole rest (Err e) parts p h = whole_end old new (line ++ rest) whole e parts (second old mid new line rest e p h)
