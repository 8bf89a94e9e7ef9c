-- Which rules the list of a dry run has, told of the files and records as the run found them.
use Rattle.std.proofs.Common.{◌≡◌, ◌∙◌, sym, subst, ap, true, List, [], length}
use Rattle.scons_base.specs.declared.ids.NodeId.{NodeId}
use Rattle.scons_base.specs.declared.ids.RuleId.{RuleId}
use Rattle.world_api.specs.Around.{Around}
use Rattle.world_api.specs.Looks.{Looks}
use Rattle.world_api.specs.Meaning.{Meaning}
use Rattle.world_api.specs.declared.hash.Hash.{Hash}
use Rattle.rule_graph.specs.Graphs.{RuleGraph}
use Rattle.rule_graph.specs.Rules.{are_below}
use Rattle.sign_store.specs.Ends.{image_in}
use Rattle.sign_store.specs.Tables.{Map}
use Rattle.build_files.specs.Dueness.{HaveOwnDigests}
use Rattle.scons_report.specs.Dry.{ListsDry}
use Rattle.scons_top.proofs.Building.{around_asked}
use Rattle.scons_top.proofs.Digests.{banks_own_digests}

-- a list that was made once the store was read
pub lists_found : {W : Type 0} (m : Meaning W) (g h : RuleGraph) (hash : Hash) (kept : Map) (nodes asked : List NodeId) (rules slice : List RuleId) (old read new : W)
    → Looks m old read → (m.tells new → m.tells read) → (m.tells old → (m.around old).running ≡ []) → (m.tells read → kept ≡ image_in (m.seen old))
    → nodes ≡ asked → are_below (length g.nodes) nodes ≡ true → slice ≡ rules
    → (m.tells new → (m.around read).running ≡ [] → are_below (length g.nodes) nodes ≡ true → HaveOwnDigests kept → ListsDry g h hash kept (m.around read) nodes rules)
    → m.tells new → ListsDry g h hash (image_in (m.seen old)) (m.around old) asked slice
lists_found m g h hash kept nodes asked rules slice old read new looks told idle map is below same lists t =
    let here = told t in
    let rests = idle (looks.told.told here) in
    let around = around_asked (m.around old) (m.around read) rests (looks.around here) in
    let records = map here in
    let digests = subst (λ (x : Map). HaveOwnDigests x) (sym records) (banks_own_digests (m.seen old)) in
    let one = lists t (ap (λ (x : Around). x.running) around ∙ rests) below digests in
    let two = subst (λ (x : Around). ListsDry g h hash kept x nodes rules) around one in
    let three = subst (λ (x : Map). ListsDry g h hash x (m.around old) nodes rules) records two in
    let four = subst (λ (x : List NodeId). ListsDry g h hash (image_in (m.seen old)) (m.around old) x rules) is three in
    subst (λ (x : List RuleId). ListsDry g h hash (image_in (m.seen old)) (m.around old) asked x) (sym same) four
