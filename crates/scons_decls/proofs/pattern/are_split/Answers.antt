use Rattle.std.proofs.Common.{arith, ◌≡◌, ◌-◌, ◌∙◌, ap, sym, length, drop, get_or}
use Rattle.scons_decls.specs.Patterns.{are_split, ends_split}
use Rattle.scons_decls.proofs.Matching.{nothing_behind, length_ends, found_at, one_back}
use Rattle.scons_decls.proofs.pattern.are_split.Goals as goal

pub places-init : goal.places-init
places-init c = record {
  within = omega arith;
  split = c.in_ok-push_first.ensures {u = tt} ∙ ap (ends_split c.args.parts.now) (sym (nothing_behind c.args.name.now (length c.args.name.now) (omega arith)));
}

pub push_next-requires-clause-room : goal.push_next-requires-clause-room
push_next-requires-clause-room c =
    ap length (c.as_slice.ensures.value ∙ c.places.invariant.split) ∙ length_ends c.args.parts.now (drop c.places.place c.args.name.now)

pub places-preserved : goal.places-preserved
places-preserved c = record {
  within = omega arith;
  split = ap (λ v. v.items) c.swap.ensures.x_after
      ∙ c.in_ok-push_next.ensures {u = tt} (drop c.places.place c.args.name.now) (c.as_slice.ensures.value ∙ c.places.invariant.split)
      ∙ ap (ends_split c.args.parts.now) (one_back c.args.name.now c.places.place c.index-name-place.result c.places-test.true c.places.invariant.within c.index-name-place.is);
}

pub index-requires : goal.index-requires
index-requires c =
    omega (arith, ap length c.places.invariant.split, length_ends c.args.parts.now (drop c.places.place c.args.name.now))

pub returns : goal.returns
returns c =
    let parts = c.args.parts.now in
    let name = c.args.name.now in
    let all : drop c.places.place name ≡ name = (let e : c.places.place ≡ 0 = omega arith in ap (λ n. drop n name) e) in
    let none : length parts - length parts ≡ 0 = omega arith in
    c.index.ensures ∙ ap (λ found. get_or found (length parts) c.index.result.now) (c.places.invariant.split ∙ ap (ends_split parts) all)
    ∙ found_at parts name (length parts) c.index.result.now (omega arith) ∙ ap (λ n. are_split (drop n parts) name) none
