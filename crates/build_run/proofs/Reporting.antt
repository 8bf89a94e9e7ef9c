-- That the texts of the faults that were kept stand printed, from call to call.
use Rattle.std.proofs.Common.{◌≡◌, ◌∙◌, ◌≤◌, ◌++◌, ◌∷◌, ◌⊎◌, inl, inr, ℕ, Bool, true, false, List, [], append-nil, append_assoc, ap, arith, refl, subst, sym}
use Rattle.std.specs.Prelude.{IfOk, Result, Ok, Err}
use Rattle.scons_base.specs.Rising.{Rose}
use Rattle.world_api.specs.Printed.{SinkMeaning}
use Rattle.world_api.specs.Printing.{Cuts, IsPrefixed, Prints}
use Rattle.rule_graph.specs.declared.build_fault.BuildFault.{BuildFault}
use Rattle.rule_graph.specs.declared.build_fault.BuildFault.TheVariants.{OutFault}
use Rattle.report_texts.specs.Faults.{fault_text}
use Rattle.build_model.proofs.Lists.{true_false}
use Rattle.build_run.specs.FaultTexts.{BuildTells, HasTold, KeepsFault, KeepsTold, SameTold, Shows, ShowsIf, is_printed, is_refused, is_shut, is_wanting, texts_of}
use Rattle.build_run.specs.declared.account.Account.{Account}
use Rattle.build_run.specs.declared.end.BuildEnd.{BuildEnd}
use Rattle.build_run.specs.declared.site.Site.{Site}

texts_more : (faults : List BuildFault) (fault : BuildFault) → texts_of (faults ++ fault ∷ []) ≡ texts_of faults ++ fault_text fault
texts_more [] fault = append-nil (fault_text fault)
texts_more (first ∷ faults) fault =
    ap (λ (l : List ℕ). fault_text first ++ l) (texts_more faults fault) ∙ sym (append_assoc (fault_text first) (texts_of faults) (fault_text fault))

-- what is a front of a text is one of a longer one
prefix_more : (before now text more : List ℕ) → IsPrefixed before now text → IsPrefixed before now (text ++ more)
prefix_more before now text more is = record {
  front = is.front;
  rest = is.rest ++ more;
  parts = ap (λ (l : List ℕ). l ++ more) is.parts ∙ append_assoc is.front is.rest more;
  printed = is.printed;
}

prefix_whole : (before now text : List ℕ) → now ≡ before ++ text → IsPrefixed before now text
prefix_whole before now text is = record { front = text; rest = []; parts = sym (append-nil text); printed = is }

prefix_on : (before mid now first text : List ℕ) → mid ≡ before ++ first → IsPrefixed mid now text → IsPrefixed before now (first ++ text)
prefix_on before mid now first text was is = record {
  front = first ++ is.front;
  rest = is.rest;
  parts = ap (λ (l : List ℕ). first ++ l) is.parts ∙ sym (append_assoc first is.front is.rest);
  printed = is.printed ∙ ap (λ (l : List ℕ). l ++ is.front) was ∙ append_assoc before first is.front;
}

not_true : {b : Bool} {A : Type 0} → b ≡ true → b ≡ false → A
not_true is isnt = true_false (sym is ∙ isnt)

rose_later : (a b c : ℕ) → a ≤ b → Rose b c → Rose a c
rose_later a b c before rose = record { later = omega (arith, before, rose.later); more = omega (arith, before, rose.more) }

module _ {E : Type 0} (e : SinkMeaning E) where
  -- nothing was printed
  pub same_told : (err : E) (old new : Account) → SameTold old new → KeepsTold e err old err new
  same_told err old new same start has = record {
    told = has.told;
    printed = λ memory tells.
        subst (λ (faults : List BuildFault). IsPrefixed (e.text start) (e.text err) (texts_of faults)) (sym same.faults)
        (has.printed (same.memory memory) tells);
    whole = λ memory free tells.
        has.whole (same.memory memory) (sym same.shut ∙ free) tells
        ∙ ap (λ (faults : List BuildFault). e.text start ++ texts_of faults) (sym same.faults);
    later = has.later;
    refused = λ shut. has.refused (sym same.shut ∙ shut);
  }

  pub cleared_told : (err new_err : E) (old new : Account) → new_err ≡ err → SameTold old new → KeepsTold e err old new_err new
  cleared_told err new_err old new same_err same start has =
      subst (λ (s : E). HasTold e start s new) (sym same_err) (same_told err old new same start has)

  module _ (start err new_err : E) (old mid new : Account) (fault : BuildFault) (kept : KeepsFault old fault mid) (has : HasTold e start err old) where
    texts_now : mid.memory ≡ false → texts_of mid.faults.items ≡ texts_of old.faults.items ++ fault_text fault
    texts_now memory = ap texts_of (kept.faults memory) ∙ texts_more old.faults.items fault

    -- it had refused before
    had_refused : new ≡ mid → new_err ≡ err → mid.is_err_shut ≡ true → HasTold e start new_err new
    had_refused same same_err shut = subst (λ (a : Account). HasTold e start new_err a) (sym same) (subst (λ (s : E). HasTold e start s mid) (sym same_err) (record {
      told = has.told;
      printed = λ memory tells.
          subst (λ (text : List ℕ). IsPrefixed (e.text start) (e.text err) text) (sym (texts_now memory))
          (prefix_more (e.text start) (e.text err) (texts_of old.faults.items) (fault_text fault) (has.printed (kept.memory memory) tells));
      whole = λ memory free tells. not_true shut free;
      later = has.later;
      refused = λ s. has.refused (sym kept.shut ∙ s);
    }))

    -- there was no text
    had_none : new.memory ≡ true → new.is_err_shut ≡ mid.is_err_shut → new_err ≡ err → HasTold e start new_err new
    had_none memory shut same = subst (λ (s : E). HasTold e start s new) (sym same) (record {
      told = has.told;
      printed = λ m tells. not_true memory m;
      whole = λ m free tells. not_true memory m;
      later = has.later;
      refused = λ s. has.refused (sym kept.shut ∙ sym shut ∙ s);
    })

    -- it was printed
    was_shown : mid.is_err_shut ≡ false → Prints e err new_err (fault_text fault) → new ≡ mid → HasTold e start new_err new
    was_shown free prints same = subst (λ (a : Account). HasTold e start new_err a) (sym same) (record {
      told = λ tells. has.told (prints.told tells);
      printed = λ memory tells. prefix_whole (e.text start) (e.text new_err) (texts_of mid.faults.items) (all memory tells);
      whole = λ memory o tells. all memory tells;
      later = omega (arith, has.later, prints.faults);
      refused = λ s. not_true s free;
    })
      where
        all : mid.memory ≡ false → e.tells new_err → e.text new_err ≡ e.text start ++ texts_of mid.faults.items
        all memory tells =
            prints.printed tells
            ∙ ap (λ (l : List ℕ). l ++ fault_text fault) (has.whole (kept.memory memory) (sym kept.shut ∙ free) (prints.told tells))
            ∙ append_assoc (e.text start) (texts_of old.faults.items) (fault_text fault)
            ∙ ap (λ (l : List ℕ). e.text start ++ l) (sym (texts_now memory))

    -- it was refused, which is a fault more
    was_cut : mid.is_err_shut ≡ false → Cuts e err new_err (fault_text fault) → new.is_err_shut ≡ true → (new.memory ≡ false → mid.memory ≡ false) →
        (new.memory ≡ false → new.faults.items ≡ mid.faults.items ++ OutFault ∷ []) → HasTold e start new_err new
    was_cut free cuts shut memory faults = record {
      told = λ tells. has.told (cuts.told tells);
      printed = λ m tells.
          let before = memory m in
          subst (λ (text : List ℕ). IsPrefixed (e.text start) (e.text new_err) text)
          (sym (ap texts_of (faults m) ∙ texts_more mid.faults.items OutFault ∙ append-nil (texts_of mid.faults.items) ∙ texts_now before))
          (prefix_on (e.text start) (e.text err) (e.text new_err) (texts_of old.faults.items) (fault_text fault)
          (has.whole (kept.memory before) (sym kept.shut ∙ free) (cuts.told tells)) (cuts.printed tells));
      whole = λ m o tells. not_true shut o;
      later = omega (arith, has.later, cuts.faults.later);
      refused = λ s. rose_later (e.faults start) (e.faults err) (e.faults new_err) has.later cuts.faults;
    }

    -- a fault was kept, and then its text shown
    pub reported : Shows e err mid (fault_text fault) new_err new → HasTold e start new_err new
    reported (is_shut shut same same_err) = had_refused same same_err shut
    reported (is_wanting memory shut same) = had_none memory shut same
    reported (is_printed free prints same) = was_shown free prints same
    reported (is_refused free cuts shut memory faults) = was_cut free cuts shut memory faults

  -- a text that can't be shown, one that is shown, and none
  pub shut_if : {T R : Type 0} (bytes : T → List ℕ) (err : E) (old : Account) (text : Result T R) → old.is_err_shut ≡ true → ShowsIf e err old bytes text err old
  shut_if bytes err old (Ok text) shut = is_shut shut refl refl
  shut_if bytes err old (Err wanting) shut = λ text. is_shut shut refl refl

  pub ok_if : {T R : Type 0} (bytes : T → List ℕ) (err new_err : E) (old new : Account) (result : Result T R) (text : T) → result ≡ Ok text →
      Shows e err old (bytes text) new_err new → ShowsIf e err old bytes result new_err new
  ok_if bytes err new_err old new result text is shows = subst (λ r. ShowsIf e err old bytes r new_err new) (sym is) shows

  pub none_if : {T R : Type 0} (bytes : T → List ℕ) (err : E) (old new : Account) (result : Result T R) (wanting : R) → result ≡ Err wanting →
      new.memory ≡ true → new.is_err_shut ≡ old.is_err_shut → ShowsIf e err old bytes result err new
  none_if bytes err old new result wanting is memory same =
      subst (λ r. ShowsIf e err old bytes r err new) (sym is) (λ text. is_wanting memory same refl)

  -- what is shown is the text of the fault
  pub shows_this : {T R : Type 0} (bytes : T → List ℕ) (err new_err : E) (old new : Account) (result : Result T R) (text : List ℕ) →
      IfOk result (λ t. bytes t ≡ text) → ShowsIf e err old bytes result new_err new → Shows e err old text new_err new
  shows_this bytes err new_err old new (Ok t) text is shows = subst (λ l. Shows e err old l new_err new) is shows
  shows_this bytes err new_err old new (Err wanting) text is shows = shows text

  -- as a build begins
  pub begins_told : (start : E) (account : Account) → account.faults.items ≡ [] → account.is_err_shut ≡ false → HasTold e start start account
  begins_told start account none free = record {
    told = λ tells. tells;
    printed = λ memory tells. prefix_whole (e.text start) (e.text start) (texts_of account.faults.items) is;
    whole = λ memory o tells. is;
    later = omega arith;
    refused = λ s. not_true s free;
  }
    where
      is : e.text start ≡ e.text start ++ texts_of account.faults.items
      is = sym (append-nil (e.text start)) ∙ ap (λ (faults : List BuildFault). e.text start ++ texts_of faults) (sym none)

  -- and as it ends
  pub build_tells : (err new : E) (account : Account) (answer : BuildEnd) → answer.faults ≡ account.faults.items → answer.memory ≡ account.memory →
      HasTold e err new account → BuildTells e err new answer
  build_tells err new account answer faults memory has = record {
    told = has.told;
    printed = λ m tells.
        subst (λ (all : List BuildFault). IsPrefixed (e.text err) (e.text new) (texts_of all)) (sym faults) (has.printed (sym memory ∙ m) tells);
    whole = λ m tells. by account.is_err_shut refl m tells;
  }
    where
      by : (b : Bool) → account.is_err_shut ≡ b → answer.memory ≡ false → e.tells new →
          (e.text new ≡ e.text err ++ texts_of answer.faults) ⊎ Rose (e.faults err) (e.faults new)
      by true shut m tells = inr (has.refused shut)
      by false free m tells =
          inl (has.whole (sym memory ∙ m) free tells ∙ ap (λ (all : List BuildFault). e.text err ++ texts_of all) (sym faults))

-- what was lent has behind it what it held in the end
pub told_given : {W O E : Type 0} (e : SinkMeaning E) (last : Site W O E) (err : E) (old : Account) (new_err : E) (new : Account) → last.err.now ≡ new_err →
    last.account.now ≡ new → KeepsTold e err old last.err.now last.account.now → KeepsTold e err old new_err new
told_given e last err old new_err new lent lent_account keeps start has =
    subst (λ s. HasTold e start s new) lent (subst (λ (a : Account). HasTold e start last.err.now a) lent_account (keeps start has))
