use Rattle.std.proofs.Common.{◌∙◌, ◌<◌, sym, arith, length}
use Rattle.json_text.proofs.Passed.{list_first, list_none, list_more, list_close, object_first, object_none, Member, object_more, object_close}
use Rattle.json_text.proofs.quick.+quick.Goals as goal

pub quick_list-returns-in-CloseList-clause-passed : goal.quick_list-returns-in-CloseList-clause-passed
quick_list-returns-in-CloseList-clause-passed t c = λ lt. list_none c.args.bytes.now c.args.at c.args.depth c.skip_space-place.result (omega arith) c.requires.within c.requires.opens c.skip_space-place.ensures.behind (omega arith) c.skip_space-place.ensures.space c.skip_space-place.ensures.skips (sym c.in-CloseList.ensures)

pub quick_list-elements-init : goal.quick_list-elements-init
quick_list-elements-init t c = record {
  behind = c.skip_space-place.ensures.behind;
  within = c.skip_space-place.ensures.within;
  no_space = c.skip_space-place.ensures.no_space;
  passed = list_first c.args.bytes.now c.args.at c.args.depth c.skip_space-place.result (omega arith) c.requires.within c.requires.opens (omega arith) c.skip_space-place.ensures.space c.skip_space-place.ensures.skips (c.skip_space-place.ensures.no_space (omega arith)) (λ e. c.in_default.not-CloseList (c.class_of.ensures ∙ e));
}

pub quick_list-elements-preserved : goal.quick_list-elements-preserved
quick_list-elements-preserved t c =
    let some : c.elements.place < c.quick_end-end.result = omega (arith, c.quick_end-end.ensures.behind) in
    let next : c.skip_space-next.result < length c.args.bytes.now = omega (arith, c.skip_space-next.ensures.within) in
    record {
      behind = omega (arith, some, c.skip_space-next.ensures.behind, c.skip_space-place-in-Comma.ensures.behind);
      within = c.skip_space-place-in-Comma.ensures.within;
      no_space = c.skip_space-place-in-Comma.ensures.no_space;
      passed = list_more c.args.bytes.now c.args.at c.args.depth c.elements.place c.quick_end-end.result c.skip_space-next.result c.elements.invariant.passed c.elements.invariant.behind some (c.quick_end-end.ensures.passed some) c.skip_space-next.ensures.behind next c.skip_space-next.ensures.space c.skip_space-next.ensures.skips
          c.skip_space-place-in-Comma.result (sym c.in-Comma.ensures) c.skip_space-place-in-Comma.ensures.behind c.skip_space-place-in-Comma.ensures.within c.skip_space-place-in-Comma.ensures.space c.skip_space-place-in-Comma.ensures.skips;
    }

pub quick_list-returns-in-CloseList-class_of-clause-passed : goal.quick_list-returns-in-CloseList-class_of-clause-passed
quick_list-returns-in-CloseList-class_of-clause-passed t c = λ lt.
    let some : c.elements.place < c.quick_end-end.result = omega (arith, c.quick_end-end.ensures.behind) in
    let next : c.skip_space-next.result < length c.args.bytes.now = omega (arith, c.skip_space-next.ensures.within) in
    list_close c.args.bytes.now c.args.at c.args.depth c.elements.place c.quick_end-end.result c.skip_space-next.result c.elements.invariant.passed c.elements.invariant.behind some (c.quick_end-end.ensures.passed some) c.skip_space-next.ensures.behind next c.skip_space-next.ensures.space c.skip_space-next.ensures.skips
    c.requires.within c.requires.opens (sym c.in-CloseList-class_of.ensures)

pub quick_object-returns-in-CloseObject-clause-passed : goal.quick_object-returns-in-CloseObject-clause-passed
quick_object-returns-in-CloseObject-clause-passed t c = λ lt. object_none c.args.bytes.now c.args.at c.args.depth c.skip_space-place.result (omega arith) c.requires.within c.requires.opens c.skip_space-place.ensures.behind (omega arith) c.skip_space-place.ensures.space c.skip_space-place.ensures.skips (sym c.in-CloseObject.ensures)

pub quick_object-members-init : goal.quick_object-members-init
quick_object-members-init t c = record {
  behind = c.skip_space-place.ensures.behind;
  within = c.skip_space-place.ensures.within;
  no_space = c.skip_space-place.ensures.no_space;
  passed = object_first c.args.bytes.now c.args.at c.args.depth c.skip_space-place.result (omega arith) c.requires.within c.requires.opens (omega arith) c.skip_space-place.ensures.space c.skip_space-place.ensures.skips (c.skip_space-place.ensures.no_space (omega arith)) (λ e. c.in_default.not-CloseObject (c.class_of.ensures ∙ e));
}

pub quick_object-members-preserved : goal.quick_object-members-preserved
quick_object-members-preserved t c =
    let quote : c.quick_key-quote.result < length c.args.bytes.now = omega (arith, c.quick_key-quote.ensures.within) in
    let some : c.in-Ok.start < c.quick_end-end.result = omega (arith, c.quick_end-end.ensures.behind) in
    let next : c.skip_space-next.result < length c.args.bytes.now = omega (arith, c.skip_space-next.ensures.within) in
    let name = c.quick_key-quote.ensures.found quote in
    let behind = name.string.behind in
    let member : Member c.args.bytes.now c.args.depth c.members.place c.quick_key-quote.result c.in-Ok.start c.quick_end-end.result c.skip_space-next.result = (record { at = omega arith; inside = quote; name = name; start_behind = c.in-Ok.ensures.within.0; spelled = c.in-Ok.ensures.spelled; colon_goes = c.in-Ok.ensures.colon; some = some; passed = c.quick_end-end.ensures.passed some; further = c.skip_space-next.ensures.behind; within = next; space = c.skip_space-next.ensures.space; skips = c.skip_space-next.ensures.skips }) in
    record {
      behind = omega (arith, behind, c.in-Ok.ensures.within, some, c.skip_space-next.ensures.behind, c.skip_space-place-in-Comma.ensures.behind);
      within = c.skip_space-place-in-Comma.ensures.within;
      no_space = c.skip_space-place-in-Comma.ensures.no_space;
      passed = object_more c.args.bytes.now c.args.at c.args.depth c.members.place c.quick_key-quote.result c.in-Ok.start c.quick_end-end.result c.skip_space-next.result c.members.invariant.passed c.members.invariant.behind member
          c.skip_space-place-in-Comma.result (sym c.in-Comma.ensures) c.skip_space-place-in-Comma.ensures.behind c.skip_space-place-in-Comma.ensures.within c.skip_space-place-in-Comma.ensures.space c.skip_space-place-in-Comma.ensures.skips;
    }

pub quick_object-returns-in-CloseObject-class_of-clause-passed : goal.quick_object-returns-in-CloseObject-class_of-clause-passed
quick_object-returns-in-CloseObject-class_of-clause-passed t c = λ lt.
    let quote : c.quick_key-quote.result < length c.args.bytes.now = omega (arith, c.quick_key-quote.ensures.within) in
    let some : c.in-Ok.start < c.quick_end-end.result = omega (arith, c.quick_end-end.ensures.behind) in
    let next : c.skip_space-next.result < length c.args.bytes.now = omega (arith, c.skip_space-next.ensures.within) in
    let name = c.quick_key-quote.ensures.found quote in
    let behind = name.string.behind in
    let member : Member c.args.bytes.now c.args.depth c.members.place c.quick_key-quote.result c.in-Ok.start c.quick_end-end.result c.skip_space-next.result = (record { at = omega arith; inside = quote; name = name; start_behind = c.in-Ok.ensures.within.0; spelled = c.in-Ok.ensures.spelled; colon_goes = c.in-Ok.ensures.colon; some = some; passed = c.quick_end-end.ensures.passed some; further = c.skip_space-next.ensures.behind; within = next; space = c.skip_space-next.ensures.space; skips = c.skip_space-next.ensures.skips }) in
    object_close c.args.bytes.now c.args.at c.args.depth c.members.place c.quick_key-quote.result c.in-Ok.start c.quick_end-end.result c.skip_space-next.result c.members.invariant.passed c.members.invariant.behind member c.requires.within c.requires.opens (sym c.in-CloseObject-class_of.ensures)

pub quick_end-quick_scalar-requires-clause-scalar : goal.quick_end-quick_scalar-requires-clause-scalar
quick_end-quick_scalar-requires-clause-scalar t c = record { no_space = c.requires.no_space (omega arith); no_string = λ e. c.in_default.not-Quote (c.class_of.ensures ∙ e); no_list = λ e. c.in_default.not-OpenList (c.class_of.ensures ∙ e); no_object = λ e. c.in_default.not-OpenObject (c.class_of.ensures ∙ e) }
