-- Records that are put tell the truth, and after a build that ended well they are those of a clean build.
use Rattle.std.proofs.Common.{◌≡◌, true, false, List, [], ◌∷◌, map, Some, refl, sym, subst, ap, ◌∙◌, inl, inr, ◌⊎◌}
use Rattle.build_model.specs.Rules.{Path, Bytes, Content, Tree, Stamps, Rule, Record, Records, Setting, Among, here, there}
use Rattle.build_model.specs.Contents.{in_tree}
use Rattle.build_model.specs.Records.{dependency_of, IsMet, named_digest, digested, IsMadeBy, AreSound}
use Rattle.build_model.specs.Steps.{Step, Fresh, Began, Ended, Lacks, Halts, Build, settled, began, IsMade, IsRun, Succeeds, contents_of, with_content, present_dependencies, present_record}
use Rattle.build_model.specs.Graphs.{Graph, setting}
use Rattle.build_model.specs.Laws.{IsBuild}
use Rattle.build_model.specs.Headline.{BuildsByContent, IsBuilt, IsAgain, IsNeeded, clean_record}
use Rattle.build_model.specs.Leaving.{IsRecordAfter, is_put, is_withdrawn, is_kept, IsUntouched}
use Rattle.build_model.proofs.Lists.{none_some, some_same}
use Rattle.build_model.proofs.Ready.{needed_place}
use Rattle.build_model.proofs.Runs.{settled_done, begun_prepared, settled_prepared, fresh_or_began}
use Rattle.build_model.proofs.Headline.{incremental_is_clean, settled_at_end, found_up_to_date}
use Rattle.build_model.proofs.Placed.{lawful}

-- each content of some paths is one of theirs
contents_met : (met : List Bytes) (t : Tree) (ps : List Path) → ((p : Path) → Among p ps → IsMet met (t p)) →
    (x : Path × Content) → Among x (contents_of t ps) → IsMet met x.1
contents_met met t [] h x m = elim m [ ]
contents_met met t (p ∷ ps) h x here = h p here
contents_met met t (p ∷ ps) h x (there m) = contents_met met t ps (λ q n. h q (there n)) x m

same_digests : (s : Setting) (r : Rule) (t : Tree) (stamps : Stamps) (ps : List Path) →
    map (digested s s.hash) (contents_of t ps) ≡ map named_digest (map (dependency_of s r (in_tree t) stamps) ps)
same_digests s r t stamps [] = refl
same_digests s r t stamps (p ∷ ps) = ap (λ l. digested s s.hash (with_content t p) ∷ l) (same_digests s r t stamps ps)

module _ (s : Setting) (b : Build) where
  begun_met : {r : Rule} (past : List Step) → IsRun s b past → Among r (began past) → (p : Path) → Among p (present_dependencies s b r) →
      IsMet b.met (b.after p)
  begun_met [] run m = elim m [ ]
  begun_met (Fresh x ∷ past) run m = begun_met past run.1 m
  begun_met (Began x ∷ past) run here = run.0.1.each_met
  begun_met (Began x ∷ past) run (there m) = begun_met past run.1 m
  begun_met (Ended x well ∷ past) run m = begun_met past run.1 m
  begun_met (Lacks x p ∷ past) run m = begun_met past run.1 m
  begun_met (Halts ∷ past) run m = begun_met past run.1 m

  -- what began isn't found up to date
  begun_made : {r : Rule} (past : List Step) → IsRun s b past → Among r (began past) → Among r (settled past) → IsMade s b.after r
  begun_made [] run m n = elim m [ ]
  begun_made (Fresh x ∷ past) run m here = absurd (run.0.0.not_began m)
  begun_made (Fresh x ∷ past) run m (there n) = begun_made past run.1 m n
  begun_made (Began x ∷ past) run here n = absurd (run.0.0.not_done (settled_done past n))
  begun_made (Began x ∷ past) run (there m) n = begun_made past run.1 m n
  begun_made (Ended x true ∷ past) run m here = run.0.1
  begun_made (Ended x true ∷ past) run m (there n) = begun_made past run.1 m n
  begun_made (Ended x false ∷ past) run m n = begun_made past run.1 m n
  begun_made (Lacks x p ∷ past) run m n = begun_made past run.1 m n
  begun_made (Halts ∷ past) run m n = begun_made past run.1 m n

  module _ (steps : List Step) (m : Records) (build : IsBuild s b steps) (untouched : IsUntouched b steps)
      (sound : AreSound s b.met b.before b.records) where
    at_target : {p : Path} {r : Record} → IsRecordAfter s b steps m p → m p ≡ Some r → Among p r.targets
    at_target {p} (is_put x began_it settled_it n e) is = subst (λ y. Among p y.targets) (some_same (sym e ∙ is)) n
    at_target (is_withdrawn x began_it out n e) is = none_some (sym e ∙ is)
    at_target {p} {r} (is_kept out e) is = sound.at_targets p r (sym e ∙ is)

    put_true : (p : Path) (x : Rule) (bytes : Bytes) → Among x (began steps) → Among x (settled steps) → Among p x.targets →
        b.after p ≡ Some bytes → IsMadeBy s b.met (present_record s b x) p bytes
    put_true p x bytes began_it settled_it n file = record {
      given = contents_of b.after (present_dependencies s b x);
      each_met = contents_met b.met b.after (present_dependencies s b x) (begun_met steps build.run began_it);
      digests = same_digests s x b.after b.stamps_after (present_dependencies s b x);
      made = sym (begun_made steps build.run began_it settled_it p n) ∙ file;
    }

    is_true : {p : Path} {r : Record} {bytes : Bytes} → IsRecordAfter s b steps m p → m p ≡ Some r → b.after p ≡ Some bytes →
        IsMadeBy s b.met r p bytes
    is_true {p} {r} {bytes} (is_put x began_it settled_it n e) is file =
        subst (λ y. IsMadeBy s b.met y p bytes) (some_same (sym e ∙ is)) (put_true p x bytes began_it settled_it n file)
    is_true (is_withdrawn x began_it out n e) is file = none_some (sym e ∙ is)
    is_true {p} {r} {bytes} (is_kept out e) is file =
        sound.true_of_files p r bytes (sym e ∙ is) (untouched p out ∙ file)

    pub stays_sound : ((p : Path) → IsRecordAfter s b steps m p) → AreSound s b.met b.after m
    stays_sound each = record {
      at_targets = λ p r is. at_target (each p) is;
      true_of_files = λ p r bytes is file. is_true (each p) is file;
    }

module _ (g : Graph) (b c : Build) (steps : List Step) (builds : BuildsByContent g b steps) (succeeds : Succeeds (setting g b.before) b steps)
    (each : (p : Path) → IsRecordAfter (setting g b.before) b steps c.records p) where
  built : IsBuilt g b steps
  built = incremental_is_clean g b steps builds succeeds

  own_rule : {p : Path} {x r : Rule} → Among x (began steps) → Among p x.targets → Among r (settled steps) → Among p r.targets → x ≡ r
  own_rule {p} {x} {r} m n k l =
      let law = lawful g b.before builds.graph in
      let x_place = needed_place (begun_prepared (setting g b.before) b steps builds.run m).wanted.is_needed in
      let r_place = needed_place (settled_prepared (setting g b.before) b steps builds.run k).wanted.is_needed in
      some_same (sym (law.alone x_place.0 x x_place.1 p n) ∙ law.alone r_place.0 r r_place.1 p l)

  kept_record : {r : Rule} {p : Path} → IsNeeded g b r → Among p r.targets → ((x : Rule) → Among x (began steps) → Among p x.targets → ⊥) →
      Among (Fresh r) steps ⊎ Among r (began steps) → b.records p ≡ Some (clean_record g b r)
  kept_record {r} {p} needed n out (inl f) =
      ((found_up_to_date g b steps builds needed f).targets p n).has_record ∙ ap Some (built.records r needed)
  kept_record {r} needed n out (inr k) = absurd (out r k n)

  after_record : {r : Rule} {p : Path} → IsNeeded g b r → Among p r.targets → Among r (settled steps) →
      IsRecordAfter (setting g b.before) b steps c.records p → c.records p ≡ Some (clean_record g b r)
  after_record {r} needed n k (is_put x m settled_it l e) =
      e ∙ ap Some (ap (present_record (setting g b.before) b) (own_rule m l k n) ∙ built.records r needed)
  after_record {r} needed n k (is_withdrawn x m out l e) =
      absurd (out (subst (λ y. Among y (settled steps)) (sym (own_rule m l k n)) k))
  after_record needed n k (is_kept out e) =
      e ∙ kept_record needed n out (fresh_or_began (setting g b.before) b steps builds.run k)

  pub is_again : c.before ≡ b.after → c.requested ≡ b.requested → IsAgain g b c
  is_again tree requested = record {
    tree = tree;
    requested = requested;
    records = λ r needed p n. after_record needed n (settled_at_end g b steps builds succeeds needed) (each p);
  }
