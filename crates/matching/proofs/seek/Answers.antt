use Rattle.notes.specs.Views.{length_field}
use Rattle.matching.specs.Finding.{sourced_few}
use Rattle.matching.specs.Handing.{few_set, few_set_one}
use Rattle.matching.specs.Matching.{seeks_void, seeks_full, seeks_front}
use Rattle.matching.specs.Noted.{viewed_all, matches_on}
use borrow.Author.Rules.{rules}
use Rattle.matching.proofs.seek.Goals as goal

pub returns-then-width-eq0 : goal.returns-then-width-eq0
returns-then-width-eq0 c = (seeks_void _ c.requires.5 (search rules), c.requires.4, viewed_all _, c.match_of.ensures.0)

pub returns-then-at-change : goal.returns-then-at-change
returns-then-at-change c =
    let h = c.set_match.ensures in
    (seeks_front (search rules) h.matches, few_set _ _ c.requires.4 (rw length_field (search rules)) (search rules) h.matches, matches_on (viewed_all _) h, few_set_one _ _ c.requires.4 (rw length_field (search rules)) h.matches)

pub returns : goal.returns
returns c =
    let x = sourced_few c.source-j.ensures in
    let h = c.set_match-2.ensures in
    (seeks_full _ _ _ c.requires.5 (search rules) c.symbol_of-x.ensures.0 c.source-j.ensures h.matches, few_set _ _ c.requires.4 (rw length_field (search rules)) x h.matches, matches_on (viewed_all _) h, few_set_one _ _ c.requires.4 (rw length_field (search rules)) h.matches)
