-- How each part begins, and what that says of what stands before it.
use Rattle.std.proofs.Common.{◌≡◌, ℕ, List, [], ◌∷◌, ◌++◌, Bool, true, false, ◌||◌, ◌⊎◌, inl, inr, refl}
use Rattle.py_token.specs.declared.token.Token.{Token}
use Rattle.py_token.specs.declared.token.TokenKind.{TokenKind}
use Rattle.py_tree.specs.Tree.{Tree}
use Rattle.py_parse.specs.Terminals.{Want, fits, heads}
use Rattle.py_parse.specs.Grammar.{Part, Body, productions, gives, takes, opens, reads}
use Rattle.py_parse.specs.Parses.{Among, here, there, Spells, given, taken, opened, read}
use Rattle.py_parse.proofs.Follow.{any_fits, blocked}
use Rattle.py_parse.proofs.Complete.{Followed}

-- the first token is one of these
abbrev pub heads_in : List Want → List Token → Bool
heads_in ws [] = false
heads_in ws (x ∷ ts) = any_fits ws x.kind

pub data Wanted : Want → List Want → Type 0 where
  wanted : {w : Want} {ws : List Want} → Wanted w (w ∷ ws)
  further : {w v : Want} {ws : List Want} → Wanted w ws → Wanted w (v ∷ ws)

or_true : (a : Bool) → (a || true) ≡ true
or_true true = refl
or_true false = refl

pub fits_in : (w : Want) (ws : List Want) (k : TokenKind) → Wanted w ws → fits w k ≡ true → any_fits ws k ≡ true
fits_in w [] k a e = elim a [ ]
fits_in w (v ∷ ws) k wanted e = rw e refl
fits_in w (v ∷ ws) k (further a) e = rw (fits_in w ws k a e) (or_true (fits v k))

-- whatever the body spells begins with one of these
abbrev pub BodyFirst : List Want → Body → Type 0
BodyFirst ws b = (d : ℕ) (us : List Token) (t : Tree) → Spells d b us t → heads_in ws us ≡ true

abbrev pub AllFirst : List Want → List Body → Type 0
AllFirst ws [] = Unit {0}
AllFirst ws (b ∷ bs) = BodyFirst ws b × AllFirst ws bs

pub first_takes : (w : Want) (k : Token → Body) (ws : List Want) → Wanted w ws → BodyFirst ws (takes w k)
first_takes w k ws a d us t (taken {x = x} e s) = fits_in w ws x.kind a e

pub first_opens : (w : Want) (k : Token → Body) (ws : List Want) → Wanted w ws → BodyFirst ws (opens w k)
first_opens w k ws a d us t (opened {x = x} e s) = fits_in w ws x.kind a e

among_first : (ws : List Want) (bs : List Body) (b : Body) → Among b bs → AllFirst ws bs → BodyFirst ws b
among_first ws [] b a f = elim a [ ]
among_first ws (c ∷ bs) b here f = f.0
among_first ws (c ∷ bs) b (there a) f = among_first ws bs b a f.1

front_heads : (ws : List Want) (ts us : List Token) → heads_in ws ts ≡ true → heads_in ws (ts ++ us) ≡ true
front_heads ws [] us h = cc
front_heads ws (x ∷ ts) us h = h

wider : (ws vs : List Want) (ts : List Token) → ((k : TokenKind) → any_fits ws k ≡ true → any_fits vs k ≡ true) → heads_in ws ts ≡ true → heads_in vs ts ≡ true
wider ws vs [] c h = cc
wider ws vs (x ∷ ts) c h = c x.kind h

-- a body that begins with a part begins as the part does
pub first_part : (p : Part) (k : Tree → Body) (ws vs : List Want) → AllFirst ws (productions p) →
    ((k' : TokenKind) → any_fits ws k' ≡ true → any_fits vs k' ≡ true) → BodyFirst vs (reads p k)
first_part p k ws vs f c d us t (read b ts us' a s1 s2) =
    wider ws vs (ts ++ us') c (front_heads ws ts us' (among_first ws (productions p) b a f d ts _ s1))

blocked_first : (ws before : List Want) (us rest : List Token) → ((k : TokenKind) → any_fits ws k ≡ true → any_fits before k ≡ false) →
    heads_in ws us ≡ true → blocked before (us ++ rest) ≡ false
blocked_first ws before [] rest c h = cc
blocked_first ws before (x ∷ us) rest c h = c x.kind h

pub followed_first : (ss : List Want) (b : Body) (ws before : List Want) → BodyFirst ws b →
    ((k : TokenKind) → any_fits ws k ≡ true → any_fits before k ≡ false) → Followed ss b before
followed_first ss b ws before f c d us rest t s h = blocked_first ws before us rest c (f d us t s)

blocked_end : (ss before : List Want) (rest : List Token) → ((k : TokenKind) → any_fits ss k ≡ false → any_fits before k ≡ false) →
    blocked ss rest ≡ false → blocked before rest ≡ false
blocked_end ss before [] c h = refl
blocked_end ss before (x ∷ rest) c h = c x.kind h

pub followed_end : (ss : List Want) (t : Tree) (before : List Want) →
    ((k : TokenKind) → any_fits ss k ≡ false → any_fits before k ≡ false) → Followed ss (gives t) before
followed_end ss t before c d us rest t' given h = blocked_end ss before rest c h

-- a list of productions, one of which may be nothing
abbrev pub AllMaybe : List Want → List Body → Type 0
AllMaybe ws [] = Unit {0}
AllMaybe ws (b ∷ bs) = ((d : ℕ) (us : List Token) (t : Tree) → Spells d b us t → (us ≡ []) ⊎ (heads_in ws us ≡ true)) × AllMaybe ws bs

pub maybe_first : (ws : List Want) (b : Body) → BodyFirst ws b → (d : ℕ) (us : List Token) (t : Tree) → Spells d b us t → (us ≡ []) ⊎ (heads_in ws us ≡ true)
maybe_first ws b f d us t s = inr (f d us t s)

pub maybe_nothing : (ws : List Want) (t' : Tree) (d : ℕ) (us : List Token) (t : Tree) → Spells d (gives t') us t → (us ≡ []) ⊎ (heads_in ws us ≡ true)
maybe_nothing ws t' d us t given = inl refl

among_maybe : (ws : List Want) (bs : List Body) (b : Body) → Among b bs → AllMaybe ws bs →
    (d : ℕ) (us : List Token) (t : Tree) → Spells d b us t → (us ≡ []) ⊎ (heads_in ws us ≡ true)
among_maybe ws [] b a f = elim a [ ]
among_maybe ws (c ∷ bs) b here f = f.0
among_maybe ws (c ∷ bs) b (there a) f = among_maybe ws bs b a f.1

maybe_blocked : (ws before : List Want) (ts us rest : List Token) → ((k : TokenKind) → any_fits ws k ≡ true → any_fits before k ≡ false) →
    (ts ≡ []) ⊎ (heads_in ws ts ≡ true) → blocked before (us ++ rest) ≡ false → blocked before ((ts ++ us) ++ rest) ≡ false
maybe_blocked ws before ts us rest c (inl e) h = rw e h
maybe_blocked ws before [] us rest c (inr e) h = h
maybe_blocked ws before (x ∷ ts) us rest c (inr e) h = c x.kind e

pub followed_maybe : (ss : List Want) (p : Part) (k : Tree → Body) (ws before : List Want) → AllMaybe ws (productions p) →
    ((k' : TokenKind) → any_fits ws k' ≡ true → any_fits before k' ≡ false) → ((u : Tree) → Followed ss (k u) before) → Followed ss (reads p k) before
followed_maybe ss p k ws before f c g' d us rest t (read {u = u} b ts us' a s1 s2) h =
    maybe_blocked ws before ts us' rest c (among_maybe ws (productions p) b a f d ts _ s1) (g' u d us' rest t s2 h)

own_heads : (w : Want) (ws : List Want) (us rest : List Token) → ((k : TokenKind) → any_fits ws k ≡ true → fits w k ≡ true) → heads_in ws us ≡ true → heads w (us ++ rest) ≡ true
own_heads w ws [] rest c h = cc
own_heads w ws (x ∷ us) rest c h = c x.kind h

pub own_first : (b : Body) (w : Want) (ws : List Want) → BodyFirst ws b → ((k : TokenKind) → any_fits ws k ≡ true → fits w k ≡ true) →
    (d : ℕ) (us rest : List Token) (t : Tree) → Spells d b us t → heads w (us ++ rest) ≡ true
own_first b w ws f c d us rest t s = own_heads w ws us rest c (f d us t s)

maybe_then : (ws vs : List Want) (ts us : List Token) → ((k : TokenKind) → any_fits ws k ≡ true → any_fits vs k ≡ true) →
    (ts ≡ []) ⊎ (heads_in ws ts ≡ true) → heads_in vs us ≡ true → heads_in vs (ts ++ us) ≡ true
maybe_then ws vs ts us c (inl e) h = rw e h
maybe_then ws vs [] us c (inr e) h = h
maybe_then ws vs (x ∷ ts) us c (inr e) h = c x.kind e

pub first_maybe : (p : Part) (k : Tree → Body) (ws vs : List Want) → AllMaybe ws (productions p) →
    ((k' : TokenKind) → any_fits ws k' ≡ true → any_fits vs k' ≡ true) → ((u : Tree) → BodyFirst vs (k u)) → BodyFirst vs (reads p k)
first_maybe p k ws vs f c g' d us t (read {u = u} b ts us' a s1 s2) =
    maybe_then ws vs ts us' c (among_maybe ws (productions p) b a f d ts _ s1) (g' u d us' t s2)
