use Rattle.std.proofs.Common.{◌≡◌, None, Ok, rules}
use Rattle.rb_script.specs.Tokens.{plain}
use Rattle.rb_directive.specs.Requests.{request}
use Rattle.rb_directive.proofs.BoundLaws.{result_within}
use Rattle.rb_directive.proofs.build.request.Goals as goal

pub returns-in-Some-short_request-clause-within : goal.returns-in-Some-short_request-clause-within
unfolding request
returns-in-Some-short_request-clause-within c =
    result_within (plain c.args.directive.now) (Ok (record { request = c.in-Some-short_request.request; log_level = None })) (search rules)

pub returns-clause-within : goal.returns-clause-within
unfolding request
returns-clause-within c =
    let told : c.long_request.result ≡ request (plain c.args.directive.now) = search rules in
    result_within (plain c.args.directive.now) c.long_request.result told
