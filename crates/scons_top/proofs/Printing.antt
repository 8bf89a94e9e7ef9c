-- What stands printed on standard output as a run goes on.
use Rattle.std.proofs.Common.{◌≡◌, ◌∙◌, ◌⊎◌, ◌<◌, ◌+◌, inl, inr, sym, subst, refl, ap, ℕ, List, [], ◌∷◌, ◌++◌, append-nil, append_assoc, length, get_or, take, drop, ◌≤◌, Option, Some, None, arith}
use Rattle.std.specs.List.{flat_map, slice_get}
use Rattle.std.proofs.lemmas.Option.{slice_get_cases}
use Rattle.rule_graph.specs.Graphs.{RuleGraph}
use Rattle.rule_graph.specs.declared.rule.Rule.{Rule}
use Rattle.report_texts.specs.Lines.{rule_text}
use Rattle.std.proofs.lemmas.Grind.{flat_map-append}
use Rattle.std.proofs.lemmas.List.{take_more, take-append-drop}
use Rattle.std.specs.Prelude.{Result, Ok, Err, IsErrAnd}
use Rattle.world_api.specs.Printed.{SinkMeaning}
use Rattle.world_api.specs.Printing.{IsPrefixed, Prints, PrintsSome, Cuts}
use Rattle.scons_host.specs.Prints.{Prints as HostPrints}
use Rattle.scons_top.specs.Printed.{ReadPrints, IsReadText, IsOpeningText}
use Rattle.scons_top.specs.Sinks.{Printed, PrintsUpTo, PrintsUnless, IsPrintedOf, PrintsSuch, IsCutBy}
use Rattle.scons_top.specs.RunLines.{line_by, progress}
use Rattle.report_texts.specs.Texts.{reading_text, read_text}
use Rattle.scons_top.specs.declared.stop.Stop.{Stop}
use Rattle.scons_words.specs.declared.words.Words.{Words}
use Rattle.scons_top.specs.declared.step.Step.{Step}
use Rattle.scons_top.specs.declared.step.Step.TheVariants as step

-- fronts of a text

prefixed_none : (now text : List ℕ) → IsPrefixed now now text
prefixed_none now text = record { front = []; rest = text; parts = refl; printed = sym (append-nil now) }

pub prefixed_more : (old now text more : List ℕ) → IsPrefixed old now text → IsPrefixed old now (text ++ more)
prefixed_more old now text more h =
    record { front = h.front; rest = h.rest ++ more; parts = ap (λ x. x ++ more) h.parts ∙ append_assoc h.front h.rest more; printed = h.printed }

pub prefixed_behind : (old mid now text more : List ℕ) → mid ≡ old ++ text → IsPrefixed mid now more → IsPrefixed old now (text ++ more)
prefixed_behind old mid now text more is h =
    record {
      front = text ++ h.front;
      rest = h.rest;
      parts = ap (λ x. text ++ x) h.parts ∙ sym (append_assoc text h.front h.rest);
      printed = h.printed ∙ ap (λ x. x ++ h.front) is ∙ append_assoc old text h.front;
    }

pub prefixed_all : (old now text : List ℕ) → now ≡ old ++ text → IsPrefixed old now text
prefixed_all old now text is = record { front = text; rest = []; parts = sym (append-nil text); printed = is }

-- texts one behind the other

module _ {S : Type 0} (p : SinkMeaning S) where
  pub printed_none : (s : S) → Printed p s s []
  printed_none s = record { told = λ t. t; whole = λ t. sym (append-nil (p.text s)) }

  pub printed_as : (a b : S) (text same : List ℕ) → text ≡ same → Printed p a b text → Printed p a b same
  printed_as a b text same is h = subst (Printed p a b) is h

  pub printed_by : (a b : S) (text : List ℕ) → Prints p a b text → Printed p a b text
  printed_by a b text h = record { told = h.told; whole = h.printed }

  pub printed_then : (a b c : S) (first second : List ℕ) → Printed p a b first → Printed p b c second → Printed p a c (first ++ second)
  printed_then a b c first second x y =
      record {
        told = λ t. x.told (y.told t);
        whole = λ t. y.whole t ∙ ap (λ z. z ++ second) (x.whole (y.told t)) ∙ append_assoc (p.text a) first second;
      }

  pub some_none : (s : S) (text : List ℕ) → PrintsSome p s s text
  some_none s text = record { told = λ t. t; printed = λ t. prefixed_none (p.text s) text }

  pub some_by : (a b : S) (text : List ℕ) → Cuts p a b text → PrintsSome p a b text
  some_by a b text h = record { told = h.told; printed = h.printed }

  pub some_all : (a b : S) (text : List ℕ) → Printed p a b text → PrintsSome p a b text
  some_all a b text h = record { told = h.told; printed = λ t. prefixed_all (p.text a) (p.text b) text (h.whole t) }

  pub some_as : (a b : S) (text same : List ℕ) → text ≡ same → PrintsSome p a b text → PrintsSome p a b same
  some_as a b text same is h = subst (PrintsSome p a b) is h

  pub some_more : (a b : S) (text more : List ℕ) → PrintsSome p a b text → PrintsSome p a b (text ++ more)
  some_more a b text more h = record { told = h.told; printed = λ t. prefixed_more (p.text a) (p.text b) text more (h.printed t) }

  pub some_behind : (a b c : S) (first second : List ℕ) → Printed p a b first → PrintsSome p b c second → PrintsSome p a c (first ++ second)
  some_behind a b c first second x y =
      record {
        told = λ t. x.told (y.told t);
        printed = λ t. prefixed_behind (p.text a) (p.text b) (p.text c) first second (x.whole (y.told t)) (y.printed t);
      }

  -- the exits of a `?`
  pub up_to_exit : {T : Type 0} (a b : S) (text : List ℕ) (r : Result T Stop) (s : Stop) → IsErrAnd r (λ x. x ≡ s) → IsCutBy s → PrintsSome p a b text → PrintsUpTo p text a b r
  up_to_exit a b text (Ok value) s is cut h = absurd is
  up_to_exit a b text (Err x) s is cut h = (subst IsCutBy (sym is) cut, h)

  pub up_to_told : {T : Type 0} (a b : S) (text : List ℕ) (r : Result T Stop) → PrintsUpTo p text a b r → p.tells b → p.tells a
  up_to_told a b text (Ok value) h = h.told
  up_to_told a b text (Err s) h = h.1.told

  pub up_to_as : {T : Type 0} (a b : S) (text same : List ℕ) (r : Result T Stop) → text ≡ same → PrintsUpTo p text a b r → PrintsUpTo p same a b r
  up_to_as a b text same r is h = subst (λ t. PrintsUpTo p t a b r) is h

  pub up_to_then : {T : Type 0} (a b c : S) (first second : List ℕ) (r : Result T Stop) → Printed p a b first → PrintsUpTo p second b c r → PrintsUpTo p (first ++ second) a c r
  up_to_then a b c first second (Ok value) x y = printed_then a b c first second x y
  up_to_then a b c first second (Err s) x y = (y.0, some_behind a b c first second x y.1)

  pub up_to_unless : {T : Type 0} (reason : Type 0) (a b : S) (text : List ℕ) (r : Result T Stop) → PrintsUpTo p text a b r → PrintsUnless p reason text a b r
  up_to_unless reason a b text (Ok value) h = inl h
  up_to_unless reason a b text (Err s) h = h.1

  pub unless_some : {T : Type 0} (reason : Type 0) (a b : S) (text : List ℕ) (r : Result T Stop) → PrintsUnless p reason text a b r → PrintsSome p a b text
  unless_some reason a b text (Ok value) (inl h) = some_all a b text h
  unless_some reason a b text (Ok value) (inr h) = h.1
  unless_some reason a b text (Err s) h = h

-- texts of a kind

module _ {S : Type 0} (p : SinkMeaning S) where
  pub such_whole : (where_so : Type 0) (P : List ℕ → Type 0) (cut : Type 0) (a b : S) (text : List ℕ) → Printed p a b text → P text → PrintsSuch p where_so P cut a b
  such_whole where_so P cut a b text h is =
      record { told = h.told; such = λ so t. record { text = text; is = is; printed = inl (h.whole t) } }

  pub such_some : (where_so : Type 0) (P : List ℕ → Type 0) (cut : Type 0) (a b : S) (text : List ℕ) → PrintsSome p a b text → P text → cut → PrintsSuch p where_so P cut a b
  such_some where_so P cut a b text h is short =
      record { told = h.told; such = λ so t. record { text = text; is = is; printed = inr (short, h.printed t) } }

  pub of_weaker : (P Q : List ℕ → Type 0) (cut short : Type 0) (a b : S) → ((text : List ℕ) → P text → Q text) → (cut → short) → IsPrintedOf p P cut a b → IsPrintedOf p Q short a b
  of_weaker P Q cut short a b by so h = record { text = h.text; is = by h.text h.is; printed = on h.printed }
    where
      on : ((p.text b ≡ p.text a ++ h.text) ⊎ (cut × IsPrefixed (p.text a) (p.text b) h.text)) → (p.text b ≡ p.text a ++ h.text) ⊎ (short × IsPrefixed (p.text a) (p.text b) h.text)
      on (inl all) = inl all
      on (inr front) = inr (so front.0, front.1)

  pub such_weaker : (where_so so : Type 0) (P Q : List ℕ → Type 0) (cut short : Type 0) (a b : S) → (so → where_so) → (so → (text : List ℕ) → P text → Q text) → (cut → short)
      → PrintsSuch p where_so P cut a b → PrintsSuch p so Q short a b
  such_weaker where_so so P Q cut short a b back by on h =
      record { told = h.told; such = λ is t. of_weaker P Q cut short a b (by is) on (h.such (back is) t) }

  all_of : (A B : Type 0) → A ⊎ (⊥ × B) → A
  all_of A B (inl all) = all
  all_of A B (inr none) = absurd none.0

  joined : (cut : Type 0) (old mid now first second : List ℕ) → mid ≡ old ++ first → (now ≡ mid ++ second) ⊎ (cut × IsPrefixed mid now second)
      → (now ≡ old ++ (first ++ second)) ⊎ (cut × IsPrefixed old now (first ++ second))
  joined cut old mid now first second is (inl all) = inl (all ∙ ap (λ z. z ++ second) is ∙ append_assoc old first second)
  joined cut old mid now first second is (inr front) = inr (front.0, prefixed_behind old mid now first second is front.1)

  pub of_joined : (P Q R : List ℕ → Type 0) (cut : Type 0) (a b c : S) → ((first second : List ℕ) → P first → Q second → R (first ++ second))
      → IsPrintedOf p P ⊥ a b → IsPrintedOf p Q cut b c → IsPrintedOf p R cut a c
  of_joined P Q R cut a b c both x y =
      record {
        text = x.text ++ y.text;
        is = both x.text y.text x.is y.is;
        printed = joined cut (p.text a) (p.text b) (p.text c) x.text y.text (all_of _ _ x.printed) y.printed;
      }

  -- one behind the other
  pub such_joined : (where_so so : Type 0) (P Q R : List ℕ → Type 0) (cut : Type 0) (a b c : S) → (so → where_so)
      → ((first second : List ℕ) → P first → Q second → R (first ++ second)) → PrintsSuch p where_so P ⊥ a b → PrintsSuch p so Q cut b c → PrintsSuch p so R cut a c
  such_joined where_so so P Q R cut a b c back both x y =
      record {
        told = λ t. x.told (y.told t);
        such = λ is t. of_joined P Q R cut a b c both (x.such (back is) (y.told t)) (y.such is t);
      }

  -- what scripts print
  pub such_host : (cut : Type 0) (a b : S) → HostPrints p a b → PrintsSuch p (Unit {0}) (λ text. Unit {0}) cut a b
  such_host cut a b h = record { told = h.told; such = λ so t. let more = h.text t in record { text = more.0; is = tt; printed = inl more.1 } }

-- the reading of scripts

module _ {O : Type 0} (p : SinkMeaning O) (said : Words) (at : Step) where
  pub read_exit : {T : Type 0} (a b : O) (P : Stop → Type 0) (text : List ℕ) (r : Result T Stop) → IsErrAnd r P → Printed p a b text → IsReadText said at text → ReadPrints p said at a b r
  read_exit a b P text (Ok value) is h kind = absurd is
  read_exit a b P text (Err s) is h kind = such_whole p (Unit {0}) (IsReadText said at) (IsCutBy s) a b text h kind

  pub read_such : {T : Type 0} (a b : O) (P : Stop → Type 0) (r : Result T Stop) → IsErrAnd r P → PrintsSuch p (Unit {0}) (IsReadText said at) ⊥ a b → ReadPrints p said at a b r
  read_such a b P (Ok value) is h = absurd is
  read_such a b P (Err s) is h = such_weaker p (Unit {0}) (Unit {0}) (IsReadText said at) (IsReadText said at) ⊥ (IsCutBy s) a b (λ u. u) (λ u text is. is) (λ no. absurd no) h

  pub read_cut : {T : Type 0} (a b : O) (r : Result T Stop) (s : Stop) → IsErrAnd r (λ x. x ≡ s) → IsCutBy s → PrintsSuch p (Unit {0}) (IsReadText said at) (Unit {0}) a b → ReadPrints p said at a b r
  read_cut a b (Ok value) s is cut h = absurd is
  read_cut a b (Err x) s is cut h =
      let short = subst IsCutBy (sym is) cut in
      such_weaker p (Unit {0}) (Unit {0}) (IsReadText said at) (IsReadText said at) (Unit {0}) (IsCutBy x) a b (λ u. u) (λ u text is. is) (λ u. short) h

module _ {O : Type 0} (p : SinkMeaning O) (said : Words) where
  -- the first line, and a front of it
  pub read_begun : (a b : O) → PrintsSome p a b (progress said reading_text) → PrintsSuch p (Unit {0}) (IsReadText said step.Reading) (Unit {0}) a b
  read_begun a b h = such_some p (Unit {0}) (IsReadText said step.Reading) (Unit {0}) a b (progress said reading_text) h ([], sym (append-nil (progress said reading_text))) tt

  -- and what the scripts print behind it
  pub read_host : (a b c : O) → Printed p a b (progress said reading_text) → HostPrints p b c → PrintsSuch p (Unit {0}) (IsReadText said step.Reading) ⊥ a c
  read_host a b c first host =
      such_joined p (Unit {0}) (Unit {0}) (λ t. t ≡ progress said reading_text) (λ t. Unit {0}) (IsReadText said step.Reading) ⊥ a b c (λ u. u)
      (λ one two is any. (two, ap (λ x. x ++ two) is)) (such_whole p (Unit {0}) (λ t. t ≡ progress said reading_text) ⊥ a b (progress said reading_text) first refl) (such_host p ⊥ b c host)

  -- and a front of the last line
  pub read_nearly : (a c d : O) → PrintsSuch p (Unit {0}) (IsReadText said step.Reading) ⊥ a c → PrintsSome p c d (progress said read_text)
      → PrintsSuch p (Unit {0}) (IsReadText said step.Reading) (Unit {0}) a d
  read_nearly a c d h some =
      such_joined p (Unit {0}) (Unit {0}) (IsReadText said step.Reading) (λ t. t ≡ progress said read_text) (IsReadText said step.Reading) (Unit {0}) a c d (λ u. u)
      (λ one two is same. (is.0 ++ two, ap (λ x. x ++ two) is.1 ∙ append_assoc (progress said reading_text) is.0 two)) h
      (such_some p (Unit {0}) (λ t. t ≡ progress said read_text) (Unit {0}) c d (progress said read_text) some refl tt)

  pub read_whole : (a c d : O) → PrintsSuch p (Unit {0}) (IsReadText said step.Reading) ⊥ a c → Printed p c d (progress said read_text) → PrintsSuch p (Unit {0}) (IsOpeningText said) ⊥ a d
  read_whole a c d h last =
      such_joined p (Unit {0}) (Unit {0}) (IsReadText said step.Reading) (λ t. t ≡ progress said read_text) (IsOpeningText said) ⊥ a c d (λ u. u)
      (λ one two is same. (is.0, ap (λ x. x ++ two) is.1 ∙ ap (λ x. (progress said reading_text ++ is.0) ++ x) same)) h
      (such_whole p (Unit {0}) (λ t. t ≡ progress said read_text) ⊥ c d (progress said read_text) last refl)

-- lines of one thing after another

pub lines_next : {X : Type 0} (f : X → List ℕ) (xs : List X) (i : ℕ) (d x : X) → i < length xs → x ≡ get_or xs i d → flat_map f (take i xs) ++ f x ≡ flat_map f (take (i + 1) xs)
lines_next f xs i d x lt at =
    ap (λ y. flat_map f (take i xs) ++ f y) at
    ∙ sym (ap (flat_map f) (take_more xs i d lt) ∙ flat_map-append f (take i xs) (get_or xs i d ∷ []) ∙ ap (λ l. flat_map f (take i xs) ++ l) (append-nil (f (get_or xs i d))))

-- the lines up to the next one, and what is behind it
pub lines_before : {X : Type 0} (f : X → List ℕ) (xs : List X) (i : ℕ) (d x : X) → i < length xs → x ≡ get_or xs i d
    → flat_map f xs ≡ (flat_map f (take i xs) ++ f x) ++ flat_map f (drop (i + 1) xs)
lines_before f xs i d x lt at =
    sym (ap (flat_map f) (take-append-drop (i + 1) xs)) ∙ flat_map-append f (take (i + 1) xs) (drop (i + 1) xs)
    ∙ ap (λ l. l ++ flat_map f (drop (i + 1) xs)) (sym (lines_next f xs i d x lt at))

-- all of them are gone over
pub lines_all : {X : Type 0} (f : X → List ℕ) (xs : List X) (i : ℕ) → take i xs ≡ xs → flat_map f (take i xs) ≡ flat_map f xs
lines_all f xs i is = ap (flat_map f) is

-- the lines of a rule that a graph has
pub line_there : (g : RuleGraph) (rule : ℕ) (text : List ℕ) → rule < length g.rules → ((named : Rule) → slice_get g.rules rule ≡ Some named → text ≡ rule_text g named) → text ≡ line_by g (slice_get g.rules rule)
line_there g rule text lt is = by (slice_get_cases g.rules rule).1
  where
    by : ((x : Rule) × (rule < length g.rules) × (slice_get g.rules rule ≡ Some x) × (get_or g.rules rule x ≡ x)) ⊎ ((length g.rules ≤ rule) × (slice_get g.rules rule ≡ None)) → text ≡ line_by g (slice_get g.rules rule)
    by (inl (x, there, at, same)) = is x at ∙ sym (ap (line_by g) at)
    by (inr (past, none)) = absurd (omega (arith, lt, past))
