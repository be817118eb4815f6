use Rattle.std.proofs.Common.{◌≡◌, ◌||◌, true, false, inr, rules}
use Rattle.http_front_head.proofs.Surveys.{judged_bad, judged_whole}
use Rattle.http_front_head.proofs.judging.judged.Goals as goal

pub returns-then-has_faulty_length : goal.returns-then-has_faulty_length
returns-then-has_faulty_length c =
    let seen = c.survey_of-survey.result in
    let bad : (seen.repeated || seen.faulty) ≡ true = cc in
    inr (judged_bad c.args.bytes.now c.args.headers.now c.args.spans.now seen c.requires.within c.requires.head
    c.requires.room c.survey_of-survey.ensures bad)

pub returns : goal.returns
returns c =
    let seen = c.survey_of-survey.result in
    let clean : (seen.repeated || seen.faulty) ≡ false = cc in
    inr (judged_whole c.args.bytes.now c.args.headers.now c.args.spans.now seen c.verb_of.result c.in-Ok.target
    c.requires.within c.requires.head c.requires.room c.survey_of-survey.ensures clean (search rules) (search rules))
