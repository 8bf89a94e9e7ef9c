-- How much of a script an f-text takes.
use Rattle.std.proofs.Common.{arith, ◌≡◌, ◌<◌, ◌+◌, ℕ, List, Bool, true, false, length, refl, subst, sym, ap, ◌∙◌}
use Rattle.std.specs.Borrow.{Bor}
use Rattle.std.specs.declared.vec.Vec.{Vec}
use Rattle.std.specs.declared.alloc.Global.{Global}
use Rattle.py_lex.specs.declared.piece.Style.{Style}
use Rattle.py_lex.specs.declared.part.Part.{Part}
use Rattle.py_lex.specs.declared.part.Part.TheVariants as part
use Rattle.py_lex.specs.declared.reader.Mode.{Mode}
use Rattle.py_lex.specs.declared.reader.Mode.TheVariants as mode
use Rattle.py_lex.specs.declared.reader.OpenText.{OpenText}
use Rattle.py_lex.specs.declared.token.Turn.{Turn}
use Rattle.py_lex.specs.declared.token.Turn.TheVariants.{Takes, Begins, Refuses}
use Rattle.py_lex.specs.Parts.{Parts}
use Rattle.py_lex.specs.Parts as parts
use Rattle.py_lex.specs.Sizes.{FitsInPart, FitsTurn, FitsBehind, Fits, FitsNext, depth_of, rank_of, quote_of, inner_of}
use Rattle.py_lex.specs.Steps.{State, mode_behind}
use Rattle.py_lex.specs.Views.{part_of}

module _ {p : Part} {field : Bool} {value : Vec ℕ Global} {lines : ℕ} {rest : Bor (List ℕ)} (e : p ≡ part.Ends field value lines rest) where
  pub part_fits : (bytes : List ℕ) → FitsInPart bytes p → lines + length rest.now < length bytes
  part_fits bytes f = let g : FitsInPart bytes (part.Ends field value lines rest) = subst (λ q. FitsInPart bytes q) e f in g

  pub part_read : {style : Style} {bytes : List ℕ} → Parts style bytes (part_of p) → Parts style bytes (parts.ends field value.items lines rest.now)
  part_read {style = style} {bytes = bytes} r = subst (λ q. Parts style bytes (part_of q)) e r

-- the quote and the brackets behind a part
quote_behind : (text : OpenText) (field : Bool) → text.style.quote < 128 → quote_of (mode_behind text field) < 128
quote_behind text true q = q
quote_behind text false q = omega arith

inner_behind : (text : OpenText) (field : Bool) → inner_of (mode_behind text field) ≡ 0
inner_behind text true = refl
inner_behind text false = refl

pub part_quote : (text : OpenText) (m : Mode) → m ≡ mode.Part text → quote_of m < 128 → text.style.quote < 128
part_quote text m e q = subst (λ n. quote_of n < 128) e q

pub part_fits_next : (text : OpenText) (field : Bool) (lines : ℕ) (s t : State) → text.style.quote < 128 → Fits s → lines + length t.rest < length s.rest →
    t.mode ≡ mode_behind text field → t.place ≡ s.place → t.line ≡ s.line + lines → FitsNext s t
part_fits_next text field lines s t q f shorter m p l =
    let quote : quote_of t.mode < 128 = subst (λ k. quote_of k < 128) (sym m) (quote_behind text field q) in
    let inner : inner_of t.mode ≡ 0 = ap inner_of m ∙ inner_behind text field in
    let depth : depth_of t.place ≡ depth_of s.place = ap depth_of p in
    let rank : rank_of t.place ≡ rank_of s.place = ap rank_of p in
    record {
      fits = record {
        lines = omega (arith, f.lines, l);
        brackets = omega (arith, f.brackets, depth);
        inner = omega (arith, f.lines, inner);
        quote = quote;
      };
      falls = omega (arith, rank, shorter);
    }

-- a token whose first bytes stand in front
pub turn_fits : (depth : ℕ) (bytes inside : List ℕ) (t : Turn) → length inside < length bytes → FitsBehind depth inside t → FitsTurn depth bytes t
turn_fits depth bytes inside (Takes kind lines after rest) s f = record {
  shorter = omega (arith, f.lines_fit, s);
  lines_fit = omega (arith, f.lines_fit, s);
  depth_fits = omega (arith, f.lines_fit, f.depth_fits, s);
}
turn_fits depth bytes inside (Begins style rest) s f = (omega (arith, f.0, s), f.1)
turn_fits depth bytes inside (Refuses kind lines) s f = omega (arith, f, s)
