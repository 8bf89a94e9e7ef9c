use Rattle.std.proofs.Common.{◌≡◌, ◌∙◌, ap, List, ℕ, []}
use Rattle.world_api.specs.Around.{Around}
use Rattle.world_api.specs.declared.disk.Bank.TheVariants.{A, B}
use Rattle.sign_store.specs.Images.{image_of}
use Rattle.sign_store.specs.Tables.{nothing}
use Rattle.world_mem.specs.InSlots.{file_at}
use Rattle.build_samples.proofs.sample.outset.Goals as goal

-- banks without a byte stand for no record
none_in : (a b : List ℕ) → a ≡ [] → b ≡ [] → image_of a b ≡ nothing
none_in a b none none_2 = ap (λ a. image_of a b) none ∙ ap (image_of []) none_2

pub returns : goal.returns
returns c =
    let new = c.in-Ok.ensures in
    let begun = c.in-Ok-begin.ensures in
    let same = c.begin.ensures.around tt in
    record {
      only = λ path. ap (λ (a : Around). a.tree path) same ∙ new.tree path ∙ ap (λ files. file_at files path) c.in_ok-files.ensures;
      idle = ap (λ (a : Around). a.running) same ∙ new.running;
      live = begun.live;
      kept = begun.keeps;
      empty = begun.map tt ∙ none_in _ _ (new.seen A) (new.seen B);
    }
