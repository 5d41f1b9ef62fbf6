use Rattle.std.proofs.Common.{take, drop, arith, sym}
use Rattle.c_lex.specs.Defined.{meanings}
use Rattle.c_lex.specs.Lexed.{State}
use Rattle.c_lex.proofs.Steps.{stood, mark_long, within_source, moved, step_tokens, step_refused, refused_here, all_taken, small_place, on_ok}
use Rattle.c_lex.proofs.scan.tokens_of.Goals as goal

pub returns-in-None-clause-refused : goal.returns-in-None-clause-refused
returns-in-None-clause-refused c =
    let s : State = record { place = c.loop-place.place; fresh = c.loop-place.fresh; known = meanings c.loop-place.defines.numbers } in
    c.loop-place.invariant.refused _ (refused_here c.args.src.now s c.loop-place-test.true (sym c.in-None.ensures))

pub keep-requires-clause-mark : goal.keep-requires-clause-mark
keep-requires-clause-mark c =
    let s : State = record { place = c.loop-place.place; fresh = c.loop-place.fresh; known = meanings c.loop-place.defines.numbers } in
    let h = stood c.args.src.now s c.in-Some.found c.in-Some.len c.loop-place.invariant.within (sym c.in-Some.ensures) in
    mark_long c.args.src.now s c.in-Some.found c.in-Some.len h

pub note-requires : goal.note-requires
note-requires c =
    let s : State = record { place = c.loop-place.place; fresh = c.loop-place.fresh; known = meanings c.loop-place.defines.numbers } in
    let h = stood c.args.src.now s c.in-Some.found c.in-Some.len c.loop-place.invariant.within (sym c.in-Some.ensures) in
    within_source c.args.src.now s c.in-Some.found c.in-Some.len h

pub behind-place-requires-clause-within : goal.behind-place-requires-clause-within
behind-place-requires-clause-within c =
    let s : State = record { place = c.loop-place.place; fresh = c.loop-place.fresh; known = meanings c.loop-place.defines.numbers } in
    (stood c.args.src.now s c.in-Some.found c.in-Some.len c.loop-place.invariant.within (sym c.in-Some.ensures)).within

pub loop-place-smaller : goal.loop-place-smaller
loop-place-smaller c =
    let src = c.args.src.now in
    let s : State = record { place = c.loop-place.place; fresh = c.loop-place.fresh; known = meanings c.loop-place.defines.numbers } in
    let q : State = record { place = c.behind-place.result; fresh = c.fresh_behind-fresh.result; known = meanings c.note.new.defines.numbers } in
    let f = c.in-Some.found in
    let n = c.in-Some.len in
    let h = stood src s f n c.loop-place.invariant.within (sym c.in-Some.ensures) in
    let noted = on_ok _ c.note.ensures c.if-is_err-2.ensures.value in
    let m = moved src s f n h q c.behind-place.ensures c.fresh_behind-fresh.ensures noted in
    omega (arith, h.some, h.within, m.at)

pub loop-place-preserved : goal.loop-place-preserved
loop-place-preserved c =
    let src = c.args.src.now in
    let s : State = record { place = c.loop-place.place; fresh = c.loop-place.fresh; known = meanings c.loop-place.defines.numbers } in
    let q : State = record { place = c.behind-place.result; fresh = c.fresh_behind-fresh.result; known = meanings c.note.new.defines.numbers } in
    let f = c.in-Some.found in
    let n = c.in-Some.len in
    let h = stood src s f n c.loop-place.invariant.within (sym c.in-Some.ensures) in
    let noted = on_ok _ c.note.ensures c.if-is_err-2.ensures.value in
    let m = moved src s f n h q c.behind-place.ensures c.fresh_behind-fresh.ensures noted in
    let kept = on_ok _ c.keep.ensures c.if-is_err.ensures.value in
    let small = small_place s.place q.place (take n (drop s.place.at src)) c.behind-place.ensures c.loop-place.invariant.line c.loop-place.invariant.col in
    record {
      within = omega (arith, h.within, m.at);
      line = small.0;
      col = small.1;
      tokens = step_tokens src s f n h q c.loop-place.tokens.items c.keep.new.tokens.items m kept c.loop-place.invariant.tokens;
      refused = step_refused src s f n h q m c.loop-place.invariant.refused;
    }

pub returns-clause-tokens : goal.returns-clause-tokens
returns-clause-tokens c =
    let s : State = record { place = c.loop-place.place; fresh = c.loop-place.fresh; known = meanings c.loop-place.defines.numbers } in
    all_taken c.args.src.now s c.loop-place.tokens.items c.loop-place-test.false c.loop-place.invariant.tokens
