-- What is told of a reading over a world and a sink, put together of what is told of its parts.
use Rattle.std.proofs.Common.{◌≡◌, ◌∙◌, ◌++◌, refl, sym, ap, subst, ℕ, List, [], Option, Result, Ok, Err, IfOk, IfErr, append-nil}
use Rattle.py_meaning.specs.declared.fault.EvalFault.{EvalFault}
use Rattle.py_eval.specs.declared.scripts.Ran.{Ran}
use Rattle.rule_graph.specs.Graphs.{RuleGraph}
use Rattle.scons_words.specs.declared.words.Words.{Words}
use Rattle.scons_rules.specs.PathGraphs.{graph_by}
use Rattle.world_api.specs.Looks.{LooksAtFiles}
use Rattle.world_api.specs.Meaning.{Meaning}
use Rattle.world_api.specs.Printed.{SinkMeaning}
use Rattle.scons_host.specs.declared.end.HostEnd.{HostEnd}
use Rattle.scons_host.specs.declared.host.ReadingHost.{ReadingHost}
use Rattle.scons_host.specs.declared.stop.Refusal.{Refusal}
use Rattle.scons_host.specs.declared.stop.Refusal.TheVariants as refusal
use Rattle.scons_host.specs.declared.stop.Stop.{Stop}
use Rattle.scons_host.specs.declared.stop.Stop.TheVariants as stop
use Rattle.scons_host.specs.declared.end.ReadKind.{ReadKind}
use Rattle.scons_host.specs.declared.end.ReadKind.TheVariants as read
use Rattle.scons_host.specs.declared.end.HostEnd.TheVariants as end
use Rattle.scons_host.specs.Files.{Files}
use Rattle.scons_host.specs.Refusals.{of_refusal}
use Rattle.scons_host.specs.Shown.{Shown, Stands, IsTold}
use Rattle.scons_host.specs.SoFar.{SoFar, so_far}
use Rattle.scons_host.specs.Untold.{untold_end, untold_stop, untold_kind}
use Rattle.scons_host.proofs.Showing.{front, rest}
use Rattle.scons_reading.specs.Beginning.{Begins, BeginsNot, bad_word, no_script}
use Rattle.scons_reading.specs.Coming.{CameTo, HasGraph, HasOutcome, IsEndOfLook, EndedSo, StopsWith, Since, Over}
use Rattle.scons_reading.specs.Ends.{IsToldEnd, end_of, told_end}
use Rattle.scons_reading.specs.Graphs.{Graphs}
use Rattle.scons_reading.specs.Reads.{Begun, Runs, over, stops, Outcome, gives, ends, ReadsOn, stopped, ungraphed, graphed, unbegun, begun, Reads, refused, reads}

module _ {W O : Type 0} (m : Meaning W) (p : SinkMeaning O) where
  pub over_map : (a b : W) (x y : O) (P Q : Files → List ℕ → Type 0) → ((f : Files) (text : List ℕ) → P f text → Q f text) → Over m p a x b y P → Over m p a x b y Q
  over_map a b x y P Q on w = λ told f s. let was = w told f s in (was.0, was.1, on f was.0 was.2)

  -- a look in front of a reading, and one behind it
  pub over_next : (a b c : W) (x y : O) (P : Files → Type 0) (Q R : Files → List ℕ → Type 0) → LooksAtFiles m a b → LooksAtFiles m b c → Shown m a b P → Over m p b x c y Q
      → ((f : Files) (text : List ℕ) → P f → Q f text → R f text) → Over m p a x c y R
  over_next a b c x y P Q R there on shown w join = λ told f s.
      let was = w told f (rest m a b c f there on s) in
      (was.0, was.1, join f was.0 (shown f (front m a b c f on s)) was.2)

  pub over_then : (a b c : W) (x y : O) (P : Files → List ℕ → Type 0) (Q : Files → Type 0) (R : Files → List ℕ → Type 0) → LooksAtFiles m a b → LooksAtFiles m b c → Over m p a x b y P → Shown m b c Q
      → ((f : Files) (text : List ℕ) → P f text → Q f → R f text) → Over m p a x c y R
  over_then a b c x y P Q R there on w shown join = λ told f s.
      let was = w told f (front m a b c f on s) in
      (was.0, was.1, join f was.0 was.2 (shown f (rest m a b c f there on s)))

  -- a look alone, which prints nothing
  pub over_look : (a b : W) (x : O) (P : Files → Type 0) (R : Files → List ℕ → Type 0) → Shown m a b P → ((f : Files) → P f → R f []) → Over m p a x b x R
  over_look a b x P R shown join = λ told f s. ([], sym (append-nil (p.text x)), join f (shown f s))

  -- what was lent to the host is what it held in the end
  pub over_given : (a : W) (x : O) (h : ReadingHost W O) (world : W) (out : O) (s : SoFar) (kept : Option HostEnd) (r : Result Ran EvalFault) (b : Begun)
      → h.world.now ≡ world → h.out.now ≡ out → so_far h.state.now ≡ s → h.kept.now.end ≡ kept
      → Over m p a x h.world.now h.out.now (λ f text. CameTo f b text (so_far h.state.now) h.kept.now.end r) → Over m p a x world out (λ f text. CameTo f b text s kept r)
  over_given a x h world out s kept r b w o t k came =
      subst (λ (y : W). Over m p a x y out (λ f text. CameTo f b text s kept r)) w
      (subst (λ (y : O). Over m p a x h.world.now y (λ f text. CameTo f b text s kept r)) o
      (subst (λ (y : SoFar). Over m p a x h.world.now h.out.now (λ f text. CameTo f b text y kept r)) t
      (subst (λ (y : Option HostEnd). Over m p a x h.world.now h.out.now (λ f text. CameTo f b text (so_far h.state.now) y r)) k came)))

-- the first script began, and the reading went on
pub read_from : (f : Files) (w : Words) (b : Begun) (text : List ℕ) (r : Result RuleGraph HostEnd) → Begins f w b → HasOutcome (ReadsOn f b) text r → HasOutcome (Reads f w) text r
read_from f w b text (Ok g) begins on = reads begins.0 begins.1 (begun begins.2 on)
read_from f w b text (Err e) begins on = λ t. reads begins.0 begins.1 (begun begins.2 (on t))

-- a fault of form without what is told besides has nothing that is told besides
kind_once : (k : ReadKind) → untold_kind (untold_kind k) ≡ untold_kind k
kind_once (read.Lex kind told) = refl
kind_once (read.Parse kind told) = refl
kind_once (read.NoScript path) = refl
kind_once (read.Eval kind) = refl
kind_once (read.Name fault) = refl
kind_once (read.Key name) = refl
kind_once (read.TwoRules path first) = refl

told_once : (s : Stop) → told_end (untold_stop s) ≡ told_end s
told_once (stop.Here kind) = refl
told_once (stop.There path line kind) = ap (λ (k : ReadKind). end.Reading path line k) (kind_once kind)
told_once (stop.Tree path) = refl
told_once stop.Out = refl
told_once (stop.TooLarge path size) = refl
told_once (stop.TooMany what count) = refl
told_once stop.Memory = refl

-- no script began
pub read_not : (f : Files) (w : Words) (s : Stop) (e : HostEnd) → (IsToldEnd e → IsTold s) → (IsToldEnd e → e ≡ end_of s) → (IsTold s → BeginsNot f w (untold_stop s)) → IsToldEnd e → Reads f w (ends (untold_end e) [])
read_not f w s e told is not t = subst (λ (x : HostEnd). Reads f w (ends x [])) (told_once s ∙ sym (ap untold_end (is t))) (by (not (told t)))
  where
    by : BeginsNot f w (untold_stop s) → Reads f w (ends (told_end (untold_stop s)) [])
    by (bad_word {r = r} word same) = subst (λ (x : Stop). Reads f w (ends (told_end x) [])) (sym same) (refused word)
    by (no_script l first script) = reads l first (unbegun script)

-- all scripts ran, and there is a graph or none
pub graph_read : (f : Files) (b : Begun) (s : SoFar) (text : List ℕ) (r : Result RuleGraph HostEnd) → Runs f b (over s text) → HasGraph f s r → HasOutcome (ReadsOn f b) text r
graph_read f b s text (Ok g) runs graph = graphed runs graph
graph_read f b s text (Err e) runs graph = λ t.
    let w = graph t in subst (λ (x : HostEnd). ReadsOn f b (ends x text)) (sym (ap untold_end w.2)) (ungraphed runs w.1)

pub stop_read : (f : Files) (b : Begun) (text : List ℕ) (e : HostEnd) → StopsWith f b text e → IsToldEnd e → ReadsOn f b (ends (untold_end e) text)
stop_read f b text e is t = stopped (is t)

-- the end that a look for the graph gives
pub graph_ended : (f : Files) (s : SoFar) (look : Result RuleGraph Stop) (r : Result RuleGraph HostEnd) → IsEndOfLook look r
    → IfOk look (λ g. Graphs f s.declared s.scripts (Ok (graph_by g))) → IfErr look (λ e. IsTold e → Graphs f s.declared s.scripts (Err e)) → HasGraph f s r
graph_ended f s look (Ok g) is ok fault = subst (λ (l : Result RuleGraph Stop). IfOk l (λ x. Graphs f s.declared s.scripts (Ok (graph_by x)))) is ok
graph_ended f s look (Err e) is ok fault = λ t.
    let w = is t in
    (w.0, subst (λ (l : Result RuleGraph Stop). IfErr l (λ x. IsTold x → Graphs f s.declared s.scripts (Err x))) w.1 fault w.2, w.3)
