-- Answers to requests. (JSON-RPC 2.0, section 5; LSP 3.17, "ErrorCodes". The members are in the order of their keys.)
use Rattle.std.specs.Prelude.{ℕ, ℤ, negsuc, List, codes}
use Rattle.serde_json.specs.Data.{Data, number, string, object, no_members, member}
use Rattle.serde_json.specs.Find.{of_integer}
use Rattle.rb_lsp.specs.declared.rpc.answer.ErrorCode.{ErrorCode}
use Rattle.rb_lsp.specs.declared.rpc.answer.ErrorCode.TheVariants.{ParseError, InvalidRequest, MethodNotFound, InvalidParams, InternalError, ServerNotInitialized, RequestCancelled, RequestFailed}

-- the answer to a request that was done
abbrev pub success : Data → Data → Data
success id result = object (member (codes "id") id (member (codes "jsonrpc") (string (codes "2.0")) (member (codes "result") result no_members)))

-- the number of an error
abbrev pub code_of : ErrorCode → ℤ
code_of ParseError = negsuc 32699
code_of InvalidRequest = negsuc 32599
code_of MethodNotFound = negsuc 32600
code_of InvalidParams = negsuc 32601
code_of InternalError = negsuc 32602
code_of ServerNotInitialized = negsuc 32001
code_of RequestCancelled = negsuc 32799
code_of RequestFailed = negsuc 32802

-- the answer to one that wasn't
abbrev pub failure : Data → ErrorCode → List ℕ → Data
failure id code message =
    object (member (codes "error") (object (member (codes "code") (number (of_integer (code_of code))) (member (codes "message") (string message) no_members)))
    (member (codes "id") id (member (codes "jsonrpc") (string (codes "2.0")) no_members)))
