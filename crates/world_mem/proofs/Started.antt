-- The jobs of a log that gains an event.
use Rattle.std.proofs.Common.{◌≡◌, ◌∙◌, sym, refl, ap, List, [], ◌∷◌, ◌++◌, map}
use Rattle.std.proofs.lemmas.List.{map-append}
use Rattle.world_api.specs.Around.{Entry, Started, Finished, started_of}
use Rattle.world_api.specs.declared.job.Job.{Job}
use Rattle.world_mem.specs.Kept.{entry_of}
use Rattle.world_mem.specs.declared.event.Event.{Event}

started_append : (xs ys : List Entry) → started_of (xs ++ ys) ≡ started_of xs ++ started_of ys
started_append [] ys = refl
started_append (Started job counts ∷ xs) ys = ap (λ (jobs : List Job). job ∷ jobs) (started_append xs ys)
started_append (Finished id outcome ∷ xs) ys = started_append xs ys

pub started_more : (jobs : List Job) (log : List Event) (event : Event) (added : List Job) → jobs ≡ started_of (map entry_of log)
    → started_of (entry_of event ∷ []) ≡ added → jobs ++ added ≡ started_of (map entry_of (log ++ event ∷ []))
started_more jobs log event added was is =
    ap (λ (l : List Job). l ++ added) was
    ∙ ap (λ (l : List Job). started_of (map entry_of log) ++ l) (sym is)
    ∙ sym (started_append (map entry_of log) (entry_of event ∷ []))
    ∙ ap started_of (sym (map-append entry_of log (event ∷ [])))
