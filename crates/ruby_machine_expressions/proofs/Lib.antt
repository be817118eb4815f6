mod Evaluating
