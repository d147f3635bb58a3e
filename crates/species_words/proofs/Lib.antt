mod CommandLaws
