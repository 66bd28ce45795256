use Rattle.druid_http_wire.proofs.GrammarMessages.{grammar_request, grammar_response}
use Rattle.druid_http_wire.proofs.laws.messages_are_of_the_grammar.Goals as goal

pub returns-clause-requests : goal.returns-clause-requests
returns-clause-requests c = grammar_request

pub returns-clause-responses : goal.returns-clause-responses
returns-clause-responses c = grammar_response
