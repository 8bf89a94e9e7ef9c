-- What scripts come to over a world and a sink, they come to over the plain host of the files that stand around, unless the outside was at
-- fault. What was printed before stands in front of what they print.
use Rattle.std.proofs.Common.{◌≡◌, ◌≢◌, ◌≤◌, ◌+◌, ◌∙◌, ◌++◌, arith, refl, sym, ap, subst, ℕ, Bool, true, false, List, [], Option, Some, None, Result, Ok, Err, length, drop, inl, inr}
use Rattle.std.specs.Prelude.{if◌then◌else◌}
use Rattle.std.proofs.Math.Seq.{drop-append_seam, drop-length}
use Rattle.std.proofs.lemmas.List.{drop-append-le, length-append}
use Rattle.py_heap.specs.Heap.{Objects}
use Rattle.py_heap.specs.Units.{Units}
use Rattle.py_host.specs.declared.place.Place.{Place}
use Rattle.py_host.specs.Lent.{lent}
use Rattle.py_host.proofs.Lending.{lent_simulates}
use Rattle.py_tree.specs.Tree.{Tree}
use Rattle.py_meaning.specs.declared.fault.EvalFault.{EvalFault}
use Rattle.py_meaning.specs.declared.fault.EvalFault.TheVariants as fault
use Rattle.py_meaning.specs.declared.fault.EvalKind.{EvalKind}
use Rattle.py_meaning.specs.declared.fault.EvalKind.TheVariants as kind
use Rattle.py_meaning.specs.States.{Out, Fault}
use Rattle.py_meaning.specs.Evaluates.{Evaluates, fault_at}
use Rattle.py_meaning.proofs.Simulating.{simulated}
use Rattle.py_eval.specs.Answers.{IsFound}
use Rattle.py_eval.specs.declared.scripts.Ran.{Ran}
use Rattle.scons_calls.specs.LeftOut.{is_name_left_out}
use Rattle.scons_decls.specs.declared.fault.NameFault.TheVariants as name
use Rattle.world_api.specs.Meaning.{Meaning}
use Rattle.world_api.specs.Printed.{SinkMeaning}
use Rattle.scons_host.specs.declared.end.HostEnd.{HostEnd}
use Rattle.scons_host.specs.declared.end.HostEnd.TheVariants as end
use Rattle.scons_host.specs.declared.end.ReadKind.{ReadKind}
use Rattle.scons_host.specs.declared.end.ReadKind.TheVariants as read
use Rattle.scons_host.specs.declared.kept.Kept.{Kept}
use Rattle.scons_host.specs.Files.{Files}
use Rattle.scons_host.specs.Lookups.{script_at}
use Rattle.scons_host.specs.Plain.{Plain, plain, in_state, with_printed}
use Rattle.scons_host.specs.Says as rules
use Rattle.scons_host.specs.Says.{IsEnd, Comes, ComesBy}
use Rattle.scons_host.specs.Saying.{Seen, Sees, Keeps, IsOutside, plain_of, saying}
use Rattle.scons_host.specs.SayingLaws.{saying_kept}
use Rattle.scons_host.specs.SoFar.{SoFar}
use Rattle.scons_host.specs.Turns.{Rules}
use Rattle.scons_host.specs.Untold.{untold_end, untold_if, untold_kind}
use Rattle.scons_host.specs.ReadingRules.{reading_rules}
use Rattle.scons_host.proofs.Meant.{meant}
use Rattle.scons_host.proofs.Saying.{says_rules}
use Rattle.scons_reading.specs.Coming.{StopsWith, StopsKept, StopsBy, IsFaultOf, CameTo, Since}
use Rattle.scons_reading.specs.Ends.{IsToldEnd, IsFaultEnd, own_end, own_kind, unknown}
use Rattle.scons_reading.specs.Reads.{Begun, begun_of, all_units, beginning, RunsTo, Runs, over, stops, ran, failed}

-- a fault of the scripts' own has nothing that is told besides
unknown_untold : (b : Bool) (word : List ℕ) → untold_kind (if b then read.Name (name.OutOfProfile word) else read.Eval (kind.Name word)) ≡ (if b then read.Name (name.OutOfProfile word) else read.Eval (kind.Name word))
unknown_untold true word = refl
unknown_untold false word = refl

kind_untold : (k : EvalKind) → untold_kind (own_kind k) ≡ own_kind k
kind_untold (kind.Name word) = unknown_untold (is_name_left_out word) word
kind_untold (kind.Value why) = refl
kind_untold (kind.Args called) = refl
kind_untold kind.NotCallable = refl
kind_untold kind.Depth = refl
kind_untold kind.Host = refl

own_untold : (s : SoFar) (place : Place) (k : EvalKind) → untold_end (own_end s place k) ≡ own_end s place k
own_untold s place k = ap (λ (w : ReadKind). end.Reading (script_at s place.script) place.line w) (kind_untold k)

-- the end of a fault that was found, where the fault isn't the host's refusal
pub own_stops : (f : Files) (b : Begun) (text : List ℕ) (s : SoFar) (kept : Option HostEnd) (place : Place) (k : EvalKind) → k ≢ kind.Host
    → StopsBy f b text s kept place k → StopsWith f b text (own_end s place k)
own_stops f b text s kept place kind.Host not w = absurd (not cc)
own_stops f b text s kept place (kind.Name word) not w = w
own_stops f b text s kept place (kind.Value why) not w = w
own_stops f b text s kept place (kind.Args called) not w = w
own_stops f b text s kept place kind.NotCallable not w = w
own_stops f b text s kept place kind.Depth not w = w

-- an end that is told isn't one of the outside
not_outside : (e : HostEnd) → IsOutside (untold_end e) → IsToldEnd e → ⊥
not_outside (end.Tree path) o t = t
not_outside end.Out o t = t
not_outside (end.Reading path line kind) o t = o
not_outside (end.TooLarge path size) o t = o
not_outside (end.TooMany what count) o t = o
not_outside end.Memory o t = t

kept_stops : (f : Files) (b : Begun) (place : Place) (text : List ℕ) (kept : Option HostEnd)
    → IsEnd IsOutside (λ k. RunsTo f b (fault_at place kind.Host) k) text (untold_if kept) → StopsKept f b text kept
kept_stops f b place text None w = w
kept_stops f b place text (Some e) (inl o) = λ t. absurd (not_outside e o t)
kept_stops f b place text (Some e) (inr w) = λ t. subst (λ x. Runs f b (stops (untold_end e) x)) w.3 (failed w.1 w.2)

own_failed : (f : Files) (b : Begun) (place : Place) (k : Plain SoFar HostEnd) (e : EvalKind) → IsFaultEnd (record { place = place; kind = e }) k (own_end k.state place e)
    → RunsTo f b (fault_at place e) k → StopsWith f b k.printed (own_end k.state place e)
own_failed f b place k e is w = λ t. subst (λ x. Runs f b (stops x k.printed)) (sym (own_untold k.state place e)) (failed w is)

kind_stops : (f : Files) (b : Begun) (place : Place) (e : EvalKind) (k : Plain SoFar HostEnd) (kept : Option HostEnd) → k.end ≡ untold_if kept
    → ComesBy e IsOutside (λ end. RunsTo f b (fault_at place e) end) k → StopsBy f b k.printed k.state kept place e
kind_stops f b place kind.Host k kept is w = kept_stops f b place k.printed kept (subst (IsEnd IsOutside (λ end. RunsTo f b (fault_at place kind.Host) end) k.printed) is w)
kind_stops f b place (kind.Name word) k kept is w = own_failed f b place k (kind.Name word) refl w
kind_stops f b place (kind.Value why) k kept is w = own_failed f b place k (kind.Value why) refl w
kind_stops f b place (kind.Args called) k kept is w = own_failed f b place k (kind.Args called) refl w
kind_stops f b place kind.NotCallable k kept is w = own_failed f b place k kind.NotCallable refl w
kind_stops f b place kind.Depth k kept is w = own_failed f b place k kind.Depth refl w

-- what a plain host has printed behind the first so many bytes
abbrev from : {S : Type 0} → ℕ → Plain S HostEnd → Plain S HostEnd
from n k = record { state = k.state; printed = drop n k.printed; end = k.end; refusals = k.refusals }

from_printed : {S : Type 0} (n : ℕ) (k : Plain S HostEnd) (text : List ℕ) → n ≤ length k.printed → from n (with_printed k text) ≡ with_printed (from n k) text
from_printed n k text within =
    ap (λ (t : List ℕ). let made : Plain _ HostEnd = record { state = k.state; printed = t; end = k.end; refusals = k.refusals } in made) (drop-append-le n k.printed text within)

module _ {W O : Type 0} (m : Meaning W) (p : SinkMeaning O) where
  abbrev plain_from : ℕ → Seen W O SoFar → Plain SoFar HostEnd
  plain_from n h = from n (plain_of p h)

  -- so much was printed before
  record SeesFrom (n : ℕ) (f : Files) (old new : Seen W O SoFar) : Type 0 where
    pub sees : Sees m p f old new
    pub behind : n ≤ length (p.text old.out)

  grown : (n : ℕ) (a b : List ℕ) → n ≤ length a → ((more : List ℕ) × (b ≡ a ++ more)) → n ≤ length b
  grown n a b within w =
      let long : length b ≡ length a + length w.0 = ap length w.1 ∙ length-append a w.0 in omega arith

  says_from : (n : ℕ) (f : Files) → rules.Says (saying m p reading_rules) reading_rules f (plain_from n) IsOutside (SeesFrom n f)
  says_from n f =
      let says = says_rules m p reading_rules f in
      record {
        front = λ a b c there on s. record { sees = says.front a b c there on s.sees; behind = s.behind };
        rest = λ a b c there on s. record {
          sees = says.rest a b c there on s.sees;
          behind = grown n (p.text a.out) (p.text b.out) s.behind (there.prints.text (on.prints.told s.sees.told));
        };
        names = λ h k name v s w. let same = says.names h k name v s.sees w in (same.0, ap (from n) same.1);
        printed = λ h k text s w. ap (from n) (says.printed h k text s.sees w) ∙ from_printed n (plain_of p h) text s.behind;
        unprinted = λ h k text s w. says.unprinted h k text s.sees w;
        answered = λ q h k o o2 x s w. let gives = says.answered q h k o o2 x s.sees w in (gives.0, ap (from n) gives.1);
        refused = λ q h k o o2 s w. let gives = says.refused q h k o o2 s.sees w in (gives.0, ap (drop n) gives.1);
      }

  nothing_before : (h : Seen W O SoFar) → h.kept ≡ record { end = None; refusals = 0 } → plain_from (length (p.text h.out)) h ≡ beginning h.state
  nothing_before h fresh = λ i. record {
    state = h.state;
    printed = drop-length (p.text h.out) i;
    end = untold_if (fresh i).end;
    refusals = (fresh i).refusals;
  }

  abbrev At : Seen W O SoFar → Tree → Objects → Begun
  At h t o = begun_of t h.state o

  module _ (f : Files) (t : Tree) (o : Objects) (h k : Seen W O SoFar) (fresh : h.kept ≡ record { end = None; refusals = 0 }) (sees : Sees m p f h k) where
    abbrev n : ℕ
    n = length (p.text h.out)

    plainly : (r : Result Out Fault) → Evaluates (saying m p reading_rules) t o all_units h r k → Comes r IsOutside (λ end. RunsTo f (At h t o) r end) (plain_from n k)
    plainly r found =
        subst (λ (start : Plain SoFar HostEnd). Comes r IsOutside (λ end. Evaluates (plain reading_rules f) t o all_units start r end) (plain_from n k)) (nothing_before h fresh)
        (meant (saying m p reading_rules) reading_rules f (plain_from n) IsOutside (SeesFrom n f) (saying_kept m p reading_rules) (says_from n f) t o all_units found (record { sees = sees; behind = omega arith }))

    seen : {H N : Type 0} (see : H → Seen W O SoFar) (held : H → N) (a c : H) (r : Result Out Fault) → see a ≡ h → see c ≡ k
        → Evaluates (lent see held (saying m p reading_rules)) t o all_units a r c → Evaluates (saying m p reading_rules) t o all_units h r k
    seen see held a c r first last found =
        subst (λ (x : Seen W O SoFar). Evaluates (saying m p reading_rules) t o all_units x r k) first
        (subst (λ (x : Seen W O SoFar). Evaluates (saying m p reading_rules) t o all_units (see a) r x) last
        (simulated (lent_simulates see held (saying m p reading_rules)) found))

    came : {H N : Type 0} (see : H → Seen W O SoFar) (held : H → N) (a c : H) (r : Result Ran EvalFault) → see a ≡ h → see c ≡ k
        → IsFound (lent see held (saying m p reading_rules)) t o all_units a r c → CameTo f (At h t o) (drop n (p.text k.out)) k.state k.kept.end r
    came see held a c (Ok done) first last found = ran (plainly _ (seen see held a c _ first last found.1))
    came see held a c (Err (fault.At script line e)) first last found =
        kind_stops f (At h t o) (record { script = script; line = line }) e (plain_from n k) k.kept.end refl (plainly _ (seen see held a c _ first last found))
    came see held a c (Err fault.Memory) first last found = tt

    since : (P : List ℕ → Type 0) → Keeps m p h k → P (drop n (p.text k.out)) → Since (p.text h.out) (p.text k.out) P
    since P keeps is =
        let more = keeps.prints.text sees.told in
        (drop n (p.text k.out), more.1 ∙ ap (λ (x : List ℕ). p.text h.out ++ x) (sym (ap (drop n) more.1 ∙ drop-append_seam (p.text h.out) more.0)), is)

    pub run_came : {H N : Type 0} (see : H → Seen W O SoFar) (held : H → N) (u : Units) (a c : H) (r : Result Ran EvalFault) → u ≡ all_units → see a ≡ h → see c ≡ k → Keeps m p h k
        → IsFound (lent see held (saying m p reading_rules)) t o u a r c → Since (p.text h.out) (p.text k.out) (λ text. CameTo f (At h t o) text k.state k.kept.end r)
    run_came see held u a c r units first last keeps found =
        since (λ text. CameTo f (At h t o) text k.state k.kept.end r) keeps
        (came see held a c r first last (subst (λ (v : Units). IsFound (lent see held (saying m p reading_rules)) t o v a r c) units found))
