-- What a printer's steps append, as the whole that it prints.
use Rattle.std.proofs.Common.{append_assoc, length-append}
use Rattle.expr_tree.proofs.Equations.{expr_int, expr_bool, expr_text, expr_name, expr_call, expr_substring, expr_unary, expr_binary, expr_paren}

pub ruleset joining = (expr_int, expr_bool, expr_text, expr_name, expr_call, expr_substring, expr_unary, expr_binary, expr_paren, append_assoc)

pub ruleset measuring = (expr_int, expr_bool, expr_text, expr_name, expr_call, expr_substring, expr_unary, expr_binary, expr_paren, length-append)
