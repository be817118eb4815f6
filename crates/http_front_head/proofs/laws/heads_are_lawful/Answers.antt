use Rattle.http_front_head.proofs.HeadLaws as law
use Rattle.http_front_head.proofs.laws.heads_are_lawful.Goals as goal

pub returns-clause-unique : goal.returns-clause-unique
returns-clause-unique c = law.head_unique

pub returns-clause-within : goal.returns-clause-within
returns-clause-within c = law.whole_is_within

pub returns-clause-grows : goal.returns-clause-grows
returns-clause-grows c = law.whole_grows

pub returns-clause-short : goal.returns-clause-short
returns-clause-short c = law.more_is_short

pub returns-clause-hopeless : goal.returns-clause-hopeless
returns-clause-hopeless c = law.hopeless_stays

pub returns-clause-empty : goal.returns-clause-empty
returns-clause-empty c = law.nothing_is_more
