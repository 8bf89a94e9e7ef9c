-- How many files a list of contents has.
use Rattle.std.proofs.Common.{◌≡◌, ◌∙◌, ◌<◌, ◌+◌, take, length-append, add-zero, sym, refl, ℕ, List, [], ◌∷◌, ◌++◌, true, false, Some, None, ap, length, get_or, is_some, append-nil, append_assoc}
use Rattle.std.specs.Option.{option_to_list}
use Rattle.std.proofs.lemmas.List.{take_more}
use Rattle.world_api.specs.Act.{Content, Given}
use Rattle.act_table.specs.Listed.{contents_in}

-- the files of one entry more
pub files-push : (entries : Given) (entry : List ℕ × Content) → contents_in (entries ++ entry ∷ []) ≡ contents_in entries ++ option_to_list entry.1
files-push [] entry = append-nil (option_to_list entry.1)
files-push (x ∷ xs) entry = ap (λ rest. option_to_list x.1 ++ rest) (files-push xs entry) ∙ sym (append_assoc (option_to_list x.1) (contents_in xs) (option_to_list entry.1))

-- how many files there are among the first of these entries, with one entry more
files-more : (entries : Given) (k : ℕ) (entry : List ℕ × Content) → k < length entries → entry ≡ get_or entries k entry
    → length (contents_in (take (k + 1) entries)) ≡ length (contents_in (take k entries)) + length (option_to_list entry.1)
files-more entries k entry lt is =
    ap (λ es. length (contents_in es)) (take_more entries k entry lt ∙ ap (λ e. take k entries ++ e ∷ []) (sym is))
    ∙ ap length (files-push (take k entries) entry)
    ∙ length-append (contents_in (take k entries)) (option_to_list entry.1)

one_if : (content : Content) → is_some content ≡ true → length (option_to_list content) ≡ 1
one_if None h = absurd (let e : false ≡ true = h in cc e)
one_if (Some bytes) h = refl

none_if : (content : Content) → is_some content ≡ false → length (option_to_list content) ≡ 0
none_if None h = refl
none_if (Some bytes) h = absurd (let e : true ≡ false = h in cc e)

pub files-one_more : (entries : Given) (k : ℕ) (entry : List ℕ × Content) → k < length entries → entry ≡ get_or entries k entry → is_some entry.1 ≡ true
    → length (contents_in (take (k + 1) entries)) ≡ length (contents_in (take k entries)) + 1
files-one_more entries k entry lt is some = files-more entries k entry lt is ∙ ap (λ n. length (contents_in (take k entries)) + n) (one_if entry.1 some)

pub files-none_more : (entries : Given) (k : ℕ) (entry : List ℕ × Content) → k < length entries → entry ≡ get_or entries k entry → is_some entry.1 ≡ false
    → length (contents_in (take (k + 1) entries)) ≡ length (contents_in (take k entries))
files-none_more entries k entry lt is none = files-more entries k entry lt is ∙ ap (λ n. length (contents_in (take k entries)) + n) (none_if entry.1 none) ∙ add-zero (length (contents_in (take k entries)))
