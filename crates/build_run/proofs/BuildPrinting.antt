-- What a build has printed in the end.
use Rattle.std.proofs.Common.{Bool, false, ◌≡◌, ◌∙◌, [], append-nil, arith, refl, subst, sym}
use Rattle.rule_graph.specs.Graphs.{RuleGraph}
use Rattle.sign_store.specs.declared.store.Store.{Store}
use Rattle.world_api.specs.Around.{Around}
use Rattle.world_api.specs.Meaning.{Meaning}
use Rattle.world_api.specs.Printed.{SinkMeaning}
use Rattle.turn_means.specs.Standing.{Outset}
use Rattle.build_run.specs.Outsets.{IsReadyFor}
use Rattle.build_run.specs.Output.{IsPrinted, MakesPrinted, PrintsAlong}
use Rattle.build_run.specs.StartTexts.{EndsPrinted, HasPrinted, no_more, no_text}
use Rattle.build_run.specs.declared.account.Account.{Account}
use Rattle.build_run.specs.declared.building.Options.{Options}
use Rattle.build_run.specs.declared.site.Run.{Run}
use Rattle.build_run.specs.declared.site.Site.{Site}
use Rattle.build_run.proofs.Finishing.{first_along}

-- where the log didn't grow nothing was printed
pub none_printed : {O : Type 0} (p : SinkMeaning O) (o : Outset) (options : Options) (around : Around) (out : O) → around.log ≡ o.before.log →
    HasPrinted p o options around out out
none_printed p o options around out same = record {
  entries = [];
  grown = same ∙ sym (append-nil o.before.log);
  text = [];
  are = no_text;
  rest = [];
  is_rest = no_more;
  printed = sym (append-nil (p.text out));
  later = omega arith;
}

-- where an end stays one
ended_on : {O : Type 0} (p : SinkMeaning O) (o : Outset) (options : Options) (around : Around) (out new : O) (before after : Bool) →
    (after ≡ false → before ≡ false) → EndsPrinted p o options around out new before → EndsPrinted p o options around out new after
ended_on p o options around out new before after keeps is = record { has = is.has; none = λ e. is.none (keeps e) }

module _ {W O E : Type 0} (m : Meaning W) (p : SinkMeaning O) where
  -- as it begins
  pub first_printed : (o : Outset) (site : Site W O E) →
      IsReadyFor m o site.graph.now site.run.now site.store.now site.world.now site.account.now site.options →
      IsPrinted m p o site.out.now site
  first_printed o site ready = record {
    has = record {
      entries = [];
      grown = ready.sets.set.around.log ∙ sym (append-nil o.before.log);
      text = [];
      are = no_text;
      rest = [];
      is_rest = no_more;
      printed = sym (append-nil (p.text site.out.now));
      later = omega arith;
    };
    none = λ e. refl;
  }

  pub goes_printed : (site mid : Site W O E) → site.run.now.held ≡ [] → site.run.now.tickets ≡ [] → mid.options ≡ site.options →
      PrintsAlong m p site mid →
      MakesPrinted m p site.graph.now site.run.now site.store.now site.world.now site.account.now site.options site.out.now mid.world.now mid.account.now
      mid.out.now
  goes_printed site mid none idle same along = record {
    told = along.told;
    prints = λ tells sure shows o ready.
        let is = along.prints tells sure shows o ready.outset (first_along m o site ready none idle) site.out.now (first_printed o site ready) in
        subst (λ (x : Options). EndsPrinted p o x (m.around mid.world.now) site.out.now mid.out.now mid.account.now.is_ended) same
        (record { has = is.has; none = is.none });
  }

  -- what was lent has behind it what it held in the end
  pub makes_given : (g : RuleGraph) (run : Run) (store : Store) (world : W) (account : Account) (options : Options) (out : O) (last : Site W O E)
      (mid now : W) (mid_account new_account : Account) (mid_out new_out : O) → last.world.now ≡ now → last.account.now ≡ new_account →
      last.out.now ≡ new_out → last.world.now ≡ mid → last.out.now ≡ mid_out →
      (last.account.now.is_ended ≡ false → mid_account.is_ended ≡ false) →
      MakesPrinted m p g run store world account options out mid mid_account mid_out →
      MakesPrinted m p g run store world account options out now new_account new_out
  makes_given g run store world account options out last mid now mid_account new_account mid_out new_out lent lent_account lent_out same same_out keeps
      made =
      subst (λ (a : Account). MakesPrinted m p g run store world account options out now a new_out) lent_account
      (subst (λ (w : W). MakesPrinted m p g run store world account options out w last.account.now new_out) (sym same ∙ lent)
      (subst (λ (s : O). MakesPrinted m p g run store world account options out mid last.account.now s) (sym same_out ∙ lent_out)
      (record {
        told = made.told;
        prints = λ tells sure shows o ready.
            ended_on p o options (m.around mid) out mid_out mid_account.is_ended last.account.now.is_ended keeps (made.prints tells sure shows o ready);
      })))
