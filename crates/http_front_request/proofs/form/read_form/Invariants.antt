use Rattle.std.proofs.Common.{◌≡◌, map}
use Rattle.form_urlencoded.specs.Parse.{owned_pairs_left}
use Rattle.http_front_request.specs.Form.{decoded_pair, form_pairs, each_once}
use Rattle.http_front_request.specs.Pairs.{given_all, entry_bytes}
use Rattle.http_front_request.proofs.form.read_form.Given as goal

abbrev pub invariant-pairs : goal.invariant-pairs
invariant-pairs l = given_all (map entry_bytes l.read.entries) (map decoded_pair (owned_pairs_left l.pair-iterator))
    ≡ each_once (form_pairs l.form)
