-- A run, put together of its reading and its building.
use Rattle.std.proofs.Common.{Bool, true, false, length, ◌==◌, ◌∷◌, arith, ◌≡◌, ◌≢◌, ◌∙◌, List, ℕ, [], sym, subst, refl, inl, inr, append-nil, Result, Ok, Err}
use Rattle.std.proofs.lemmas.Bool.Decides.{nat_tests}
use Rattle.world_api.specs.Around.{Around, Tree}
use Rattle.world_api.specs.Counts.{Counts}
use Rattle.world_api.specs.Meaning.{Meaning, Told}
use Rattle.world_api.specs.Printed.{SinkMeaning}
use Rattle.one_rule.specs.declared.rule.Rule.{Rule}
use Rattle.one_rule.specs.declared.report.Top.TheVariants.{Usage}
use Rattle.one_rule.specs.declared.report.UsageKind.TheVariants.{NotBuilt}
use Rattle.one_rule.specs.declared.stops.ReadStop.{ReadStop}
use Rattle.one_rule.specs.declared.stops.ReadStop.TheVariants as read
use Rattle.one_rule.specs.declared.stops.BuildStop.{BuildStop}
use Rattle.one_rule.specs.declared.stops.BuildStop.TheVariants as build
use Rattle.one_rule.specs.Building.{Unchanged, Leaves, LeavesBy, HasSource, MayBuild, no_source, large_source, unreadable_source, kept_target, not_started, failed, built}
use Rattle.one_rule.specs.Course.{Course, Refused, Misread, Stopped, Failed, Built, announced_text, body_text}
use Rattle.one_rule.specs.Endings.{Comes, EndsAs, read_ending, build_ending}
use Rattle.one_rule.specs.Ends.{FaultCause, ReadCause, ReadGives, ReadPrints, BuildCause, BuildGives, BuildMakes, BuildPrints}
use Rattle.world_api.specs.Printing.{Prints, PrintsPart}
use Rattle.one_rule.specs.Reading.{Reads}
use Rattle.one_rule.specs.Run.{MayTake, refused, misread, builds, LeavesAll}
use Rattle.one_rule.specs.Texts.{reading_text}
use Rattle.one_rule.proofs.Builds.{no_change, unchanged_idles, step_leaves, made_after}
use Rattle.world_api.proofs.PrintRuns.{prints_nothing, prints_both, cut_second, part_of, part_second}

pub unchanged_both : (old mid new : Around) → Unchanged old mid → Unchanged mid new → Unchanged old new
unchanged_both old mid new first second = record {
  files = λ path. second.files path ∙ first.files path;
  running = second.running;
  log = second.log ∙ first.log;
  met = λ bytes met. second.met bytes (first.met bytes met);
  law = second.law ∙ first.law;
}

module _ (mid old : Tree) (rule : Rule) (same : mid rule.source ≡ old rule.source) where
  same_source : HasSource mid rule → HasSource old rule
  same_source source = record { bytes = source.bytes; is = sym same ∙ source.is; small = source.small }

  same_course : {course : Course} → MayBuild mid rule course → MayBuild old rule course
  same_course (no_source none) = no_source (sym same ∙ none)
  same_course (large_source bytes is above) = large_source bytes (sym same ∙ is) above
  same_course unreadable_source = unreadable_source
  same_course (kept_target source) = kept_target (same_source source)
  same_course (not_started source) = not_started (same_source source)
  same_course (failed code source) = failed code (same_source source)
  same_course (built source) = built (same_source source)

-- what building leaves, behind a look at the script
pub leaves_all : (words : List (List ℕ)) (rule : Rule) (counts before : Counts) (old mid new : Around) → words ≡ [] → Reads old.tree rule → counts ≡ before → Unchanged old mid → LeavesBy rule counts mid new → LeavesAll words before old new
leaves_all words rule counts before old mid new no_words reads same first (inl second) = inl (unchanged_both old mid new first second)
leaves_all words rule counts before old mid new no_words reads same first (inr (source, leaves)) =
    inr (
      rule,
      record { no_words = no_words; reads = reads; source = same_source mid.tree old.tree rule (first.files rule.source) source },
      step_leaves rule before old mid new (unchanged_idles rule old mid first) (subst (λ n. Leaves rule n mid new) same leaves),
    )

module _ {W O : Type 0} (world : Meaning W) (out : SinkMeaning O) (words : List (List ℕ)) where
  -- a word is refused
  pub refuses : (now : W) (sink : O) → (world.tells now → (world.around now).running ≡ []) → words ≢ [] → Comes world out words now now sink sink (Refused (Usage 0 NotBuilt))
  refuses now sink idle some = record {
    takes = record { may = λ told. refused some; makes = λ told. no_change (world.around now) (idle told); cause = refl };
    printed = prints_nothing out sink;
  }

  -- reading has stopped
  pub misreads : (old new : W) (old_out new_out : O) (no_words : words ≡ []) (stop : ReadStop)
      → (world.tells new → Unchanged (world.around old) (world.around new))
      → (world.tells new → ReadGives (world.around old).tree (Err stop)) → ReadCause (Err stop) (world.counts old) (world.counts new)
      → ReadPrints out old_out new_out (Err stop) → EndsAs world out words old new old_out new_out (read_ending stop)
  misreads old new old_out new_out no_words (read.Fault fault) same gives cause printed = record {
    takes = record { may = λ told. misread no_words (gives told); makes = same; cause = cause };
    printed = printed;
  }
  misreads old new old_out new_out no_words read.Unprinted same gives cause printed = ((λ told. (same told).log), record { course = Misread (Usage 0 NotBuilt); may = λ told. no_words; counts = cause; printed = printed })
  misreads old new old_out new_out no_words read.NoMemory same gives cause printed = record {
    course = Misread (Usage 0 NotBuilt);
    may = λ told. no_words;
    counts = cause;
    printed = subst (PrintsPart out old_out new_out) (append-nil reading_text) (part_of out old_out new_out reading_text [] printed);
  }

  -- building has ended
  module _ (rule : Rule) (old mid new : W) (old_out mid_out new_out : O) (no_words : words ≡ [])
      (told : Told world mid new) (others : rule.source ≢ rule.target)
      (reads : world.tells mid → Reads (world.around old).tree rule)
      (first : world.tells mid → Unchanged (world.around old) (world.around mid))
      (counts : world.counts mid ≡ world.counts old)
      (announced : Prints out old_out mid_out reading_text) where
    may_take : (course : Course) → (world.tells new → MayBuild (world.around mid).tree rule course) → world.tells new → MayTake words (world.around old).tree course
    may_take course may now =
        let before = told.told now in
        builds rule no_words (reads before) (same_course (world.around mid).tree (world.around old).tree rule ((first before).files rule.source) (may now))

    after : (result : Result (Unit {0}) BuildStop) → (world.tells new → BuildMakes (world.sure new) rule (world.counts mid) (world.around mid) (world.around new) result)
        → world.tells new → BuildMakes (world.sure new) rule (world.counts old) (world.around old) (world.around new) result
    after result makes now =
        let before = told.told now in
        made_after rule others (world.sure new) (world.counts old) (world.around old) (world.around mid) (world.around new) (unchanged_idles rule (world.around old) (world.around mid) (first before)) result
        (subst (λ n. BuildMakes (world.sure new) rule n (world.around mid) (world.around new) result) counts (makes now))

    pub ends_build : (result : Result (Unit {0}) BuildStop)
        → (world.tells new → BuildGives (world.around mid).tree rule result)
        → (world.tells new → BuildMakes (world.sure new) rule (world.counts mid) (world.around mid) (world.around new) result)
        → BuildCause result (world.counts mid) (world.counts new) → BuildPrints out rule mid_out new_out result
        → EndsAs world out words old new old_out new_out (build_ending result)
    ends_build (Ok done) gives makes cause printed = (
      rule,
      record {
        takes = record { may = may_take (Built rule) gives; makes = after (Ok done) makes; cause = cause ∙ counts };
        printed = prints_both out old_out mid_out new_out reading_text (body_text rule) announced printed;
      },
    )
    ends_build (Err (build.Stopped fault)) gives makes cause printed = record {
      takes = record { may = may_take (Stopped fault) gives; makes = after (Err (build.Stopped fault)) makes; cause = subst (λ n. FaultCause fault n (world.counts new)) counts cause };
      printed = prints_both out old_out mid_out new_out reading_text announced_text announced printed;
    }
    ends_build (Err (build.Failed fault)) gives makes cause printed = (
      rule,
      record {
        takes = record { may = may_take (Failed rule fault) gives; makes = after (Err (build.Failed fault)) makes; cause = subst (λ n. FaultCause fault n (world.counts new)) counts cause };
        printed = prints_both out old_out mid_out new_out reading_text (body_text rule) announced printed;
      },
    )
    ends_build (Err build.Unprinted) gives makes cause printed = (
      after (Err build.Unprinted) makes,
      record {
        course = Built rule;
        may = λ now. (no_words, reads (told.told now));
        counts = cause ∙ counts;
        printed = cut_second out old_out mid_out new_out reading_text (body_text rule) announced printed;
      },
    )
    ends_build (Err build.NoMemory) gives makes cause printed = record {
      course = Built rule;
      may = λ now. (no_words, reads (told.told now));
      counts = cause ∙ counts;
      printed = part_second out old_out mid_out new_out reading_text (body_text rule) announced printed;
    }

-- the test for words
pub no_word : (words : List (List ℕ)) (test : Bool) → test ≡ (length words == 0) → test ≡ true → words ≡ []
no_word [] test is empty = refl
no_word (word ∷ words) test is empty =
    let positive : (length (word ∷ words) == 0) ≡ false = grind (arith, nat_tests) in
    cc

pub some_word : (words : List (List ℕ)) (test : Bool) → test ≡ (length words == 0) → test ≡ false → words ≢ []
some_word words test is filled none =
    let zero_long : (length words == 0) ≡ true = subst (λ (ws : List (List ℕ)). (length ws == 0) ≡ true) (sym none) refl in
    absurd (cc (zero_long, is, filled))
