use Rattle.std.proofs.Common.{◌≡◌}
use Rattle.replies.specs.Reply.{no_counts}
use Rattle.editing.specs.Editing.{mapped_err, thrown}
use Rattle.kindlesap.specs.ParseChecks.{room_for, fits_slots, done_fed, done_spread, store_done, store_refused, ran_done}
use borrow.Author.Rules.{rules}
use Rattle.kindlesap.proofs.call_parse.parse_tokens.Goals as goal

pub returns-in_err-o : goal.returns-in_err-o
returns-in_err-o c =
    let e = mapped_err _ c.parse_lent.result _ c.map_err.ensures.cases c.in_err-o.was in
    rw (thrown _ c.from_residual.ensures.1, e.2) (store_refused e.0 _ (rw e.1 at c.parse_lent.ensures))

pub lay_out-requires : goal.lay_out-requires
lay_out-requires c =
    let z = c.requires.1 in
    let u = z.few in
    let v = z.long in
    let d = ran_done _ c.parse_lent.ensures _ _ c.map_err.ensures.cases c.in_ok-o.was in
    let f = fits_slots _ _ _ _ _ _ _ z.some d in
    let r = room_for _ _ _ z c.requires.2 in
    (search rules, search rules, search rules, search rules, done_spread _ _ _ _ _ _ _ z.some d, done_fed _ _ _ _ _ _ _ z.some d)

pub overflow_cast-result : goal.overflow_cast-result
overflow_cast-result c =
    let z = c.requires.1 in
    let u = z.few in
    let f = fits_slots _ _ _ _ _ _ _ z.some (ran_done _ c.parse_lent.ensures _ _ c.map_err.ensures.cases c.in_ok-o.was) in
    search rules

pub overflow_cast-result-2 : goal.overflow_cast-result-2
overflow_cast-result-2 c =
    let z = c.requires.1 in
    let u = z.few in
    let f = fits_slots _ _ _ _ _ _ _ z.some (ran_done _ c.parse_lent.ensures _ _ c.map_err.ensures.cases c.in_ok-o.was) in
    search rules

pub returns : goal.returns
returns c =
    let d : c.default.result ≡ no_counts = search rules in rw d (store_done _ _ _ _ _ _ _ c.requires.1.some (ran_done _ c.parse_lent.ensures _ _ c.map_err.ensures.cases c.in_ok-o.was) _ _ c.lay_out.ensures)
