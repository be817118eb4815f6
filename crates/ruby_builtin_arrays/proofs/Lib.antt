mod MemberLaws
mod NumberLaws
